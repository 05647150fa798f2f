-- A line that is written part by part.
use Rattle.std.proofs.Common.{◌≡◌, ℕ, ◌+◌, Bool, cond, List, [], ◌++◌, sym, refl, ap, ◌∙◌, append-nil, add-one}
use Rattle.std.proofs.Output.{has_written_append, has_written_of_eq, writes_in_calls_nil}
use Rattle.std.specs.Fmt.{HasWritten, IsPlainFormatter}
use Rattle.std.specs.declared.fmt.Formatter.{Formatter}
use Rattle.lines.specs.LabelLines.{mode_part, modes_below, pair_part, pairs_of, pairs_below}

module _ {W : Type 0} (took : W → List ℕ → W → Type 0) where
  -- nothing is written yet
  pub none_written : (f : Formatter W) (part : List ℕ) → part ≡ [] → IsPlainFormatter f → HasWritten took f part f
  none_written f part e plain = has_written_of_eq took f [] part f (sym e) (record { wrote = writes_in_calls_nil took _; plain = plain })

  -- one part more
  pub more_written : (f g h : Formatter W) (before part all : List ℕ) → HasWritten took f before g → HasWritten took g part h → all ≡ before ++ part → HasWritten took f all h
  more_written f g h before part all p q e = has_written_of_eq took f (before ++ part) all h (sym e) (has_written_append took f before g part h p q)

  -- a part that is left out
  pub left_out : (f g : Formatter W) (before all : List ℕ) → HasWritten took f before g → all ≡ before ++ [] → HasWritten took f all g
  left_out f g before all p e = has_written_of_eq took f before all g (sym (append-nil before) ∙ sym e) p

-- the next mode, which passes or does not
pub modes_more : (f : ℕ → Bool) (k : ℕ) (b : Bool) → f k ≡ b → modes_below f (k + 1) ≡ modes_below f k ++ cond b (mode_part k) []
unfolding modes_below
modes_more f k b e = ap (modes_below f) (add-one k) ∙ ap (λ (c : Bool). modes_below f k ++ cond c (mode_part k) []) e

pub pairs_more : (f : ℕ → ℕ → Bool) (u k : ℕ) (b : Bool) → f u k ≡ b → pairs_of f u (k + 1) ≡ pairs_of f u k ++ cond b (pair_part u k) []
unfolding pairs_of
pairs_more f u k b e = ap (pairs_of f u) (add-one k) ∙ ap (λ (c : Bool). pairs_of f u k ++ cond c (pair_part u k) []) e

pub rows_more : (f : ℕ → ℕ → Bool) (n k : ℕ) → pairs_below f n (k + 1) ≡ pairs_below f n k ++ pairs_of f k n
unfolding pairs_below
rows_more f n k = ap (pairs_below f n) (add-one k)

pub modes_none : (f : ℕ → Bool) → modes_below f 0 ≡ []
unfolding modes_below
modes_none f = refl

pub pairs_none : (f : ℕ → ℕ → Bool) (u : ℕ) → pairs_of f u 0 ≡ []
unfolding pairs_of
pairs_none f u = refl

pub rows_none : (f : ℕ → ℕ → Bool) (n : ℕ) → pairs_below f n 0 ≡ []
unfolding pairs_below
rows_none f n = refl

-- A run that begins here, by what it is.
use Rattle.std.proofs.Common.{◌≡◌, ℕ, List, take, Ok, sym, refl, ap, ◌∙◌}
use Rattle.std.proofs.lemmas.Bool.{ne_eqb}
use Rattle.words.specs.Words.{Reading, Tok, run_length, run_token, read_run, run_from, moved, token_here}

module _ (p : Reading) (n : ℕ) (part : List ℕ) (long : n ≡ run_length p.rest) (some : n ≡ 0 → ⊥) (cut : part ≡ take n p.rest) where
  from_read : run_from p ≡ read_run (run_token part) p (moved p n)
  from_read =
      let h = ne_eqb n 0 some in
      rw (← long, h, ← cut) refl

  pub run_good : (t : Tok) → Ok t ≡ run_token part → token_here t p (moved p n) ≡ run_from p
  run_good t e = sym (from_read ∙ ap (λ r. read_run r p (moved p n)) (sym e))

-- What `all` decides, over the numbers below a count and over the elements of a list.
use Rattle.std.proofs.Common.{◌≡◌, ℕ, ◌<◌, Bool, true, false, List, [], ◌∷◌, length, get_or, Decides, subst, refl, ◌∙◌, arith}
use mathlib.Core.Bool.{false≢true}
use Rattle.std.proofs.lemmas.List.FromFn.{length-range_with_len, get_or-range_with_len}
use Rattle.std.proofs.ByRecursion.{all_from_every, All-get_or}
use Rattle.std.specs.Bool.{MatchBool}
use Rattle.std.specs.List.{AllByRecursion, AllWithin, HoldsAt, range_with_len}

-- over the numbers below n
pub decides_below : (P : ℕ → Type 0) (n : ℕ) (r : Bool) → MatchBool r (AllWithin P (range_with_len 0 n) 0 (length (range_with_len 0 n))) ((k : ℕ) × (k < length (range_with_len 0 n)) × HoldsAt (λ a. P a → ⊥) (range_with_len 0 n) k) → Decides r ((a : ℕ) → a < n → P a)
decides_below P n true each =
    (λ _ a h. subst P (place a h) (each a 0 (omega arith) (rw (length-range_with_len 0 n) h)), λ _. refl)
  where
    place : (a : ℕ) → a < n → get_or (range_with_len 0 n) a 0 ≡ a
    place a h = get_or-range_with_len 0 n a 0 h ∙ omega arith
decides_below P n false (k, h, fails) =
    let l : k < n = rw (← length-range_with_len 0 n) h in
    let place : k ≡ get_or (range_with_len 0 n) k 0 = omega (arith, get_or-range_with_len 0 n k 0 l) in
    (λ e. absurd (false≢true e), λ every. absurd (fails 0 (subst P place (every k l))))

-- over the elements of a list
pub decides_each : {X : Type 0} (P : X → Type 0) (xs : List X) (r : Bool) → MatchBool r (AllWithin P xs 0 (length xs)) ((k : ℕ) × (k < length xs) × HoldsAt (λ x. P x → ⊥) xs k) → Decides r (AllByRecursion P xs)
decides_each P xs true each = (λ _. all_from_every P xs each, λ _. refl)
decides_each P [] false (k, h, fails) = let none : ⊥ = omega arith in absurd none
decides_each P (x ∷ xs) false (k, h, fails) = (λ e. absurd (false≢true e), λ all. absurd (fails x (All-get_or P (x ∷ xs) k x h all)))

-- What `test_at` reads.
use Rattle.std.proofs.Common.{◌≡◌, ℕ, zero, suc, ◌<◌, ◌≤◌, Bool, false, List, [], ◌∷◌, length, get_or, refl, le_of_suc-le-suc, arith}
use Rattle.dial_graph.specs.Lists.{test_at}

module _ {X : Type 0} (f : X → Bool) where
  -- an element that is there
  pub test_at_in : (xs : List X) (i : ℕ) (d : X) → i < length xs → test_at f xs i ≡ f (get_or xs i d)
  test_at_in [] i d h = let none : ⊥ = omega arith in absurd none
  test_at_in (x ∷ xs) zero d h = refl
  test_at_in (x ∷ xs) (suc i) d h = test_at_in xs i d (le_of_suc-le-suc h)

  -- an element that is not there
  pub test_at_past : (xs : List X) (i : ℕ) → length xs ≤ i → test_at f xs i ≡ false
  test_at_past [] i h = refl
  test_at_past (x ∷ xs) zero h = let none : ⊥ = omega arith in absurd none
  test_at_past (x ∷ xs) (suc i) h = test_at_past xs i (le_of_suc-le-suc h)

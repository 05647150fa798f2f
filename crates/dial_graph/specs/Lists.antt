-- What is asked of a list by a test.
use Rattle.std.specs.Prelude.{ℕ, zero, suc, Bool, false, List, [], ◌∷◌}

-- whether element i, counted from 0, is there and passes the test
abbrev pub test_at : {X : Type 0} → (X → Bool) → List X → ℕ → Bool
test_at f [] i = false
test_at f (x ∷ xs) zero = f x
test_at f (x ∷ xs) (suc i) = test_at f xs i

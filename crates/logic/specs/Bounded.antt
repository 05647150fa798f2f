-- What a list of at most n elements has after one more was handed to it.
use Rattle.std.specs.Prelude.{ℕ, cond, List, [], ◌∷◌, ◌++◌, length, Some, None, Option, nat_lt}

-- the list with one more at the end, or the same list where there is no room
abbrev pub with_next : {X : Type 0} → ℕ → X → List X → List X
with_next n x xs = cond (nat_lt (length xs) n) (xs ++ x ∷ []) xs

-- the place of an element that is put after these, or none where there is no room
abbrev pub place_of_next : {X : Type 0} → ℕ → List X → Option ℕ
place_of_next n xs = cond (nat_lt (length xs) n) (Some (length xs)) None

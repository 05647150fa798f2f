-- Rows in bytes: three for each row, the letter of its kind and then its two numbers.
use Rattle.std.specs.Prelude.{ℕ, cond, List, [], ◌∷◌, Some, None, Option, ◌==◌}
use Rattle.logic.specs.declared.row.Row.{Row}
use Rattle.logic.specs.declared.row.Row.TheVariants.{Never, Flag, Not, Both, Either, Implies, Box, Diamond, Command, Sequence, Choice, Repetition, Converse, Test}

-- The row of a letter and two numbers: the letters are those of a claim sheet, O P N K A C L M for formulas and d s u r b t for
-- programs. A kind with one number takes the first, and one with none takes neither. Any other letter means no row.
abbrev pub row_of : ℕ → ℕ → ℕ → Option Row
row_of letter x y =
    cond (letter == 79) (Some Never)
    (cond (letter == 80) (Some (Flag x))
    (cond (letter == 78) (Some (Not x))
    (cond (letter == 75) (Some (Both x y))
    (cond (letter == 65) (Some (Either x y))
    (cond (letter == 67) (Some (Implies x y))
    (cond (letter == 76) (Some (Box x y))
    (cond (letter == 77) (Some (Diamond x y))
    (cond (letter == 100) (Some (Command x))
    (cond (letter == 115) (Some (Sequence x y))
    (cond (letter == 117) (Some (Choice x y))
    (cond (letter == 114) (Some (Repetition x))
    (cond (letter == 98) (Some (Converse x))
    (cond (letter == 116) (Some (Test x))
    None)))))))))))))

-- a row before others, where both are there
abbrev pub before : Option Row → Option (List Row) → Option (List Row)
before None others = None
before (Some row) None = None
before (Some row) (Some others) = Some (row ∷ others)

-- The rows that bytes mean, in order. Bytes that are left over, and a letter that is none of a row's, mean no rows.
abbrev pub rows_of : List ℕ → Option (List Row)
rows_of [] = Some []
rows_of (letter ∷ []) = None
rows_of (letter ∷ x ∷ []) = None
rows_of (letter ∷ x ∷ y ∷ bytes) = before (row_of letter x y) (rows_of bytes)

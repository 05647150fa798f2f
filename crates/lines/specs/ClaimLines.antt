-- The bytes of the lines that show a claim sheet.
use Rattle.std.specs.Prelude.{ℕ, List, ◌++◌, codes, decimal}
use Rattle.logic.specs.declared.row.Row.{Row}
use Rattle.logic.specs.declared.row.Row.TheVariants.{Never, Flag, Not, Both, Either, Implies, Box, Diamond, Command, Sequence, Choice, Repetition, Converse, Test}
use Rattle.logic.specs.declared.row.Scope.{Scope}
use Rattle.logic.specs.declared.row.Scope.TheVariants.{All, Mode}

-- (claim k all row) and (claim k mode row)
abbrev pub claim_line : ℕ → Scope → ℕ → List ℕ
claim_line k All row = codes "(claim " ++ (decimal k ++ (codes " all " ++ (decimal row ++ codes ")")))
claim_line k (Mode u) row = codes "(claim " ++ (decimal k ++ (codes " " ++ (decimal u ++ (codes " " ++ (decimal row ++ codes ")")))))

-- (row i letter)
abbrev pub leaf_line : ℕ → List ℕ → List ℕ
leaf_line i letter = codes "(row " ++ (decimal i ++ (codes " " ++ (letter ++ codes ")")))

-- (row i letter x)
abbrev pub one_line : ℕ → List ℕ → ℕ → List ℕ
one_line i letter x = codes "(row " ++ (decimal i ++ (codes " " ++ (letter ++ (codes " " ++ (decimal x ++ codes ")")))))

-- (row i letter x y)
abbrev pub two_line : ℕ → List ℕ → ℕ → ℕ → List ℕ
two_line i letter x y = codes "(row " ++ (decimal i ++ (codes " " ++ (letter ++ (codes " " ++ (decimal x ++ (codes " " ++ (decimal y ++ codes ")")))))))

-- each kind of row by its letter
abbrev pub row_line : ℕ → Row → List ℕ
row_line i Never = leaf_line i (codes "O")
row_line i (Flag p) = one_line i (codes "P") p
row_line i (Not x) = one_line i (codes "N") x
row_line i (Both x y) = two_line i (codes "K") x y
row_line i (Either x y) = two_line i (codes "A") x y
row_line i (Implies x y) = two_line i (codes "C") x y
row_line i (Box r x) = two_line i (codes "L") r x
row_line i (Diamond r x) = two_line i (codes "M") r x
row_line i (Command a) = one_line i (codes "d") a
row_line i (Sequence r s) = two_line i (codes "s") r s
row_line i (Choice r s) = two_line i (codes "u") r s
row_line i (Repetition r) = one_line i (codes "r") r
row_line i (Converse r) = one_line i (codes "b") r
row_line i (Test x) = one_line i (codes "t") x

-- The bytes of the lines that show a label table.
use Rattle.std.specs.Prelude.{ℕ, zero, suc, Bool, cond, List, [], ◌++◌, codes, decimal}
use Rattle.logic.specs.Rows.{is_formula}
use Rattle.logic.specs.declared.row.Row.{Row}
use Rattle.label_table.specs.Layout.{mode_bit, pair_bit}

-- a mode, after a space
abbrev pub mode_part : ℕ → List ℕ
mode_part u = codes " " ++ decimal u

-- the modes below k that pass the test, rising
unfoldable pub modes_below : (ℕ → Bool) → ℕ → List ℕ
modes_below f zero = []
modes_below f (suc k) = modes_below f k ++ cond (f k) (mode_part k) []

-- (true r u ..): the modes below n where formula row r is true
abbrev pub true_line : (ℕ → Bool) → ℕ → ℕ → List ℕ
true_line f r n = ((codes "(true " ++ decimal r) ++ modes_below f n) ++ codes ")"

-- a pair in brackets, after a space
abbrev pub pair_part : ℕ → ℕ → List ℕ
pair_part u v = codes " (" ++ (decimal u ++ (codes " " ++ (decimal v ++ codes ")")))

-- the pairs of u and each mode below k that pass the test, rising
unfoldable pub pairs_of : (ℕ → ℕ → Bool) → ℕ → ℕ → List ℕ
pairs_of f u zero = []
pairs_of f u (suc k) = pairs_of f u k ++ cond (f u k) (pair_part u k) []

-- the pairs of each mode below k and each mode below n, by the first and then by the second
unfoldable pub pairs_below : (ℕ → ℕ → Bool) → ℕ → ℕ → List ℕ
pairs_below f n zero = []
pairs_below f n (suc k) = pairs_below f n k ++ pairs_of f k n

-- (joins r (u v) ..): the pairs of modes below n that program row r joins
abbrev pub joins_line : (ℕ → ℕ → Bool) → ℕ → ℕ → List ℕ
joins_line f r n = ((codes "(joins " ++ decimal r) ++ pairs_below f n n) ++ codes ")"

-- the line of row r of a label table, by its sort
abbrev pub label_line : List ℕ → ℕ → Row → ℕ → List ℕ
label_line table r row n = cond (is_formula row) (true_line (mode_bit table r) r n) (joins_line (pair_bit table r) r n)

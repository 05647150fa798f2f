-- Which tree a row stands for, and when the rows of a list are in order.
use Rattle.std.specs.Prelude.{◌≡◌, ℕ, ◌<◌, Bool, true, false, List, ◌++◌, length, slice_index_or}
use Rattle.logic.specs.Trees.{Formula, Program, never, flag, negation, both, either, implies, box, diamond, command, sequence, choice, repetition, converse, test}
use Rattle.logic.specs.declared.row.Row.{Row}
use Rattle.logic.specs.declared.row.Row.TheVariants.{Never, Flag, Not, Both, Either, Implies, Box, Diamond, Command, Sequence, Choice, Repetition, Converse, Test}

-- there is a row i, and this is it
abbrev pub RowIs : List Row → ℕ → Row → Type 0
RowIs rows i row = (i < length rows) × (slice_index_or rows i Never ≡ row)

abbrev mutual
  -- row i stands for the formula
  pub FormulaRow : List Row → ℕ → Formula → Type 0
  FormulaRow rows i never = RowIs rows i Never
  FormulaRow rows i (flag p) = RowIs rows i (Flag p)
  FormulaRow rows i (negation x) = (j : ℕ) × RowIs rows i (Not j) × FormulaRow rows j x
  FormulaRow rows i (both x y) = (j : ℕ) × (k : ℕ) × RowIs rows i (Both j k) × FormulaRow rows j x × FormulaRow rows k y
  FormulaRow rows i (either x y) = (j : ℕ) × (k : ℕ) × RowIs rows i (Either j k) × FormulaRow rows j x × FormulaRow rows k y
  FormulaRow rows i (implies x y) = (j : ℕ) × (k : ℕ) × RowIs rows i (Implies j k) × FormulaRow rows j x × FormulaRow rows k y
  FormulaRow rows i (box r x) = (j : ℕ) × (k : ℕ) × RowIs rows i (Box j k) × ProgramRow rows j r × FormulaRow rows k x
  FormulaRow rows i (diamond r x) = (j : ℕ) × (k : ℕ) × RowIs rows i (Diamond j k) × ProgramRow rows j r × FormulaRow rows k x

  -- row i stands for the program
  pub ProgramRow : List Row → ℕ → Program → Type 0
  ProgramRow rows i (command a) = RowIs rows i (Command a)
  ProgramRow rows i (sequence r s) = (j : ℕ) × (k : ℕ) × RowIs rows i (Sequence j k) × ProgramRow rows j r × ProgramRow rows k s
  ProgramRow rows i (choice r s) = (j : ℕ) × (k : ℕ) × RowIs rows i (Choice j k) × ProgramRow rows j r × ProgramRow rows k s
  ProgramRow rows i (repetition r) = (j : ℕ) × RowIs rows i (Repetition j) × ProgramRow rows j r
  ProgramRow rows i (converse r) = (j : ℕ) × RowIs rows i (Converse j) × ProgramRow rows j r
  ProgramRow rows i (test x) = (j : ℕ) × RowIs rows i (Test j) × FormulaRow rows j x

-- whether a row is a formula; every other row is a program
abbrev pub is_formula : Row → Bool
is_formula Never = true
is_formula (Flag p) = true
is_formula (Not j) = true
is_formula (Both j k) = true
is_formula (Either j k) = true
is_formula (Implies j k) = true
is_formula (Box j k) = true
is_formula (Diamond j k) = true
is_formula (Command a) = false
is_formula (Sequence j k) = false
is_formula (Choice j k) = false
is_formula (Repetition j) = false
is_formula (Converse j) = false
is_formula (Test j) = false

-- row j stands before row i, and is a formula
abbrev pub FormulaBefore : List Row → ℕ → ℕ → Type 0
FormulaBefore rows i j = (j < i) × (is_formula (slice_index_or rows j Never) ≡ true)

-- row j stands before row i, and is a program
abbrev pub ProgramBefore : List Row → ℕ → ℕ → Type 0
ProgramBefore rows i j = (j < i) × (is_formula (slice_index_or rows j Never) ≡ false)

-- the parts of a row that stands at place i are rows before it, each of the right sort
abbrev pub PartsBefore : List Row → ℕ → Row → Type 0
PartsBefore rows i Never = Unit {0}
PartsBefore rows i (Flag p) = Unit {0}
PartsBefore rows i (Not j) = FormulaBefore rows i j
PartsBefore rows i (Both j k) = FormulaBefore rows i j × FormulaBefore rows i k
PartsBefore rows i (Either j k) = FormulaBefore rows i j × FormulaBefore rows i k
PartsBefore rows i (Implies j k) = FormulaBefore rows i j × FormulaBefore rows i k
PartsBefore rows i (Box j k) = ProgramBefore rows i j × FormulaBefore rows i k
PartsBefore rows i (Diamond j k) = ProgramBefore rows i j × FormulaBefore rows i k
PartsBefore rows i (Command a) = Unit {0}
PartsBefore rows i (Sequence j k) = ProgramBefore rows i j × ProgramBefore rows i k
PartsBefore rows i (Choice j k) = ProgramBefore rows i j × ProgramBefore rows i k
PartsBefore rows i (Repetition j) = ProgramBefore rows i j
PartsBefore rows i (Converse j) = ProgramBefore rows i j
PartsBefore rows i (Test j) = FormulaBefore rows i j

-- the parts of each row are rows before it, each of the right sort
abbrev pub Orderly : List Row → Type 0
Orderly rows = (i : ℕ) → i < length rows → PartsBefore rows i (slice_index_or rows i Never)

-- row i stands for one formula and no other
abbrev pub OneFormula : List Row → ℕ → Type 0
OneFormula rows i = (x : Formula) × FormulaRow rows i x × ((y : Formula) → FormulaRow rows i y → y ≡ x)

-- row i stands for one program and no other
abbrev pub OneProgram : List Row → ℕ → Type 0
OneProgram rows i = (r : Program) × ProgramRow rows i r × ((s : Program) → ProgramRow rows i s → s ≡ r)

-- What rows stand for: each row of an orderly list for exactly one tree of its sort, and no row for a tree of the other sort;
-- rows that are put after a row change nothing.
pub record RowsStand : Type 0 where
  pub one_formula : (rows : List Row) → Orderly rows → (i : ℕ) → i < length rows → is_formula (slice_index_or rows i Never) ≡ true → OneFormula rows i
  pub one_program : (rows : List Row) → Orderly rows → (i : ℕ) → i < length rows → is_formula (slice_index_or rows i Never) ≡ false → OneProgram rows i
  pub formula_sort : (rows : List Row) (i : ℕ) (x : Formula) → FormulaRow rows i x → (i < length rows) × (is_formula (slice_index_or rows i Never) ≡ true)
  pub program_sort : (rows : List Row) (i : ℕ) (r : Program) → ProgramRow rows i r → (i < length rows) × (is_formula (slice_index_or rows i Never) ≡ false)
  pub formula_stays : (rows more : List Row) (i : ℕ) (x : Formula) → FormulaRow rows i x → FormulaRow (rows ++ more) i x
  pub program_stays : (rows more : List Row) (i : ℕ) (r : Program) → ProgramRow rows i r → ProgramRow (rows ++ more) i r

-- What the bits of a label table say: for a graph and a sheet's rows, the truth of every row at every mode and pair of modes.
use Rattle.std.specs.Prelude.{◌≡◌, ℕ, ◌+◌, ◌*◌, ◌/◌, ◌%◌, ◌<◌, ◌≤◌, true, false, ◌⊎◌, List, length, Decides, slice_index, slice_index_or}
use Rattle.graph.specs.Meaning.{Meaning}
use Rattle.sets.specs.Sets.{bit}
use Rattle.logic.specs.Trees.{Formula, Program}
use Rattle.logic.specs.Truth.{TrueAt, Leads}
use Rattle.logic.specs.Rows.{FormulaRow, ProgramRow, is_formula}
use Rattle.logic.specs.declared.row.Row.{Row}
use Rattle.logic.specs.declared.row.Row.TheVariants.{Never}
use Rattle.label_table.specs.Layout.{table_bytes, mode_bit, pair_bit}

-- there is a row r, and it is a formula
abbrev pub FormulaAt : List Row → ℕ → Type 0
FormulaAt rows r = (r < length rows) × (is_formula (slice_index_or rows r Never) ≡ true)

-- there is a row r, and it is a program
abbrev pub ProgramAt : List Row → ℕ → Type 0
ProgramAt rows r = (r < length rows) × (is_formula (slice_index_or rows r Never) ≡ false)

-- row r stands for a formula that is true at mode u
abbrev pub RowTrue : Meaning → List Row → ℕ → ℕ → Type 0
RowTrue m rows r u = (x : Formula) × FormulaRow rows r x × TrueAt m x u

-- row r stands for a program that leads from mode u to mode v
abbrev pub RowLeads : Meaning → List Row → ℕ → ℕ → ℕ → Type 0
RowLeads m rows r u v = (p : Program) × ProgramRow rows r p × Leads m p u v

-- bit k of byte i is the bit of a mode of a formula row
abbrev pub ModeFact : Meaning → List Row → ℕ → ℕ → Type 0
ModeFact m rows i k = (r : ℕ) × (u : ℕ) × FormulaAt rows r × (u < m.modes) × (i ≡ 512 * r + u / 8) × (k ≡ u % 8)

-- bit k of byte i is the bit of a pair of modes of a program row
abbrev pub PairFact : Meaning → List Row → ℕ → ℕ → Type 0
PairFact m rows i k =
    (r : ℕ) × (u : ℕ) × (v : ℕ) × ProgramAt rows r × (u < m.modes) × (v < m.modes) × (i ≡ 512 * r + 8 * u + v / 8) × (k ≡ v % 8)

-- The bytes begin with the label table of the rows over the graph: a mode's bit is set exactly where its formula is true, a
-- pair's bit exactly where its program leads from the one mode to the other, and no other bit is set.
pub record LabelTable (m : Meaning) (rows : List Row) (bytes : List ℕ) : Type 0 where
  pub whole : table_bytes ≤ length bytes
  pub are_bytes : (i : ℕ) → i < table_bytes → slice_index bytes i < 256
  pub modes : (r u : ℕ) → FormulaAt rows r → u < m.modes → Decides (mode_bit bytes r u) (RowTrue m rows r u)
  pub pairs : (r u v : ℕ) → ProgramAt rows r → u < m.modes → v < m.modes → Decides (pair_bit bytes r u v) (RowLeads m rows r u v)
  pub others : (i k : ℕ) → i < table_bytes → k < 8 → (ModeFact m rows i k ⊎ PairFact m rows i k → ⊥) → bit bytes i k ≡ false

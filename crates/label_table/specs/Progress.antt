-- How far a label table is filled: row after row, from the first on.
use Rattle.std.specs.Prelude.{ℕ, ◌<◌, ◌≤◌, List, slice_index_or}
use Rattle.graph.specs.Meaning.{Meaning, mode_limit}
use Rattle.logic.specs.declared.row.Row.{Row}
use Rattle.logic.specs.declared.row.Row.TheVariants.{Never}
use Rattle.label_table.specs.Entries.{In, Entry}
use Rattle.label_table.specs.Changes.{Clear, TidyBefore}

-- row q holds exactly what it says
abbrev pub Done : Meaning → List ℕ → ℕ → Row → Type 0
Done m bytes q row =
    (u v : ℕ) → u < mode_limit → v < mode_limit → (In bytes q u v → Entry m bytes row u v) × (Entry m bytes row u v → In bytes q u v)

-- the rows below k are done, and the others are clear
pub record SoFar (m : Meaning) (rows : List Row) (k : ℕ) (new : List ℕ) : Type 0 where
  pub done : (q : ℕ) → q < k → Done m new q (slice_index_or rows q Never)
  pub clear : (q : ℕ) → k ≤ q → q < 48 → Clear q new
  pub tidy : TidyBefore m.modes k new

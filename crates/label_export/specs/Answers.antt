-- What labelling rows in bytes over a table of bytes answers, and what each answer says.
use Rattle.std.specs.Prelude.{◌≡◌, ℕ, ◌≤◌, ◌⊎◌, List, [], length, Some, Ok, Err, Result}
use Rattle.graph.specs.Meaning.{Meaning}
use Rattle.list_graph.specs.Layout.{table_bytes}
use Rattle.list_graph.specs.Lists.{CountsFit, list_meaning}
use Rattle.list_graph.specs.Made as made
use Rattle.logic.specs.Sheets.{row_limit}
use Rattle.logic.specs.declared.row.Row.{Row}
use Rattle.labeller.specs.Labelling as labelling
use Rattle.labeller.specs.Labelling.{Labelled}
use Rattle.label_export.specs.Packed.{rows_of}
use Rattle.label_export.specs.declared.refused.Refused.{Refused}
use Rattle.label_export.specs.declared.refused.Refused.TheVariants.{NotRows}

-- the bytes mean these rows, and a sheet has room for them
pub record RowsIn (bytes : List ℕ) (rows : List Row) : Type 0 where
  pub meant : rows_of bytes ≡ Some rows
  pub room : length rows ≤ row_limit

-- the bytes mean no rows, or more than a sheet has room for
abbrev pub NoRows : List ℕ → Type 0
NoRows bytes = (rows : List Row) → RowsIn bytes rows → ⊥

-- where all bytes were rows that found room, the rows of a sheet that had none; and on which ground they were not
abbrev pub Put : List ℕ → Result (Unit {0}) Refused → List Row → Type 0
Put bytes (Ok done) rows = RowsIn bytes rows
Put bytes (Err e) rows = (e ≡ NotRows) × NoRows bytes

-- the rows that the bytes mean are labelled over the graph, with no claims beside them
abbrev pub RowsLabelled : Meaning → List ℕ → List ℕ → List ℕ → Type 0
RowsLabelled m bytes old new = (rows : List Row) × RowsIn bytes rows × Labelled m rows [] old new

-- The ground on which rows are not labelled over a graph, by its number: 1 where the bytes mean no rows for a sheet; 2 where
-- there is no memory for a sheet; else the rows do not fit the graph, or the memory is too short, under the number of that.
abbrev pub RowsGround : Meaning → List ℕ → List ℕ → ℕ → Type 0
RowsGround m bytes old number =
    ((number ≡ 1) × NoRows bytes) ⊎ (number ≡ 2) ⊎ ((rows : List Row) × RowsIn bytes rows × labelling.Ground m rows [] old number)

-- the bytes are a whole table, and the counts are within the limits
pub record TableFits (table : List ℕ) (n c f : ℕ) : Type 0 where
  pub whole : table_bytes ≤ length table
  pub counts : CountsFit n c f

-- The ground on which rows are not labelled over a table, by its number: the table or the counts make no graph, under the
-- number of that; or they make one, and the rows are not labelled over it.
abbrev pub TableGround : List ℕ → ℕ → ℕ → ℕ → List ℕ → List ℕ → ℕ → Type 0
TableGround table n c f bytes old number =
    made.Ground table n c f number ⊎ (TableFits table n c f × RowsGround (list_meaning table n c f) bytes old number)

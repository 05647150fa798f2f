-- What labelling answers and what it leaves, and that it leaves the one label table that there is.
use Rattle.std.specs.Prelude.{◌≡◌, ℕ, ◌<◌, ◌≤◌, ◌⊎◌, List, length, take, IfOk, Ok, Err, Result, slice_index}
use Rattle.graph.specs.Meaning.{Meaning}
use Rattle.logic.specs.declared.row.Claim.{Claim}
use Rattle.logic.specs.declared.row.Row.{Row}
use Rattle.fit.specs.Fit.{Fits}
use Rattle.label_table.specs.Layout.{table_bytes}
use Rattle.label_table.specs.Labels.{LabelTable}
use Rattle.labeller.specs.declared.refusal.Refusal.{Refusal}
use Rattle.labeller.specs.Refusals.{refusal_number}

-- the memory suffices and the sheet fits the graph; the memory begins with the label table, and every byte behind it is as it was
pub record Labelled (m : Meaning) (rows : List Row) (claims : List Claim) (old new : List ℕ) : Type 0 where
  pub enough : table_bytes ≤ length old
  pub fits : Fits m rows claims
  pub table : LabelTable m rows new
  pub size : length new ≡ length old
  pub beyond : (i : ℕ) → table_bytes ≤ i → slice_index new i ≡ slice_index old i

-- the ground of a refusal by its number: 9 where the memory is too short; 14 where it is not, and the sheet does not fit the graph
abbrev pub Ground : Meaning → List Row → List Claim → List ℕ → ℕ → Type 0
Ground m rows claims old number =
    ((number ≡ 9) × (length old < table_bytes)) ⊎ ((number ≡ 14) × (table_bytes ≤ length old) × (Fits m rows claims → ⊥))

-- what labelling a sheet over a graph answers, and the memory before and after it; a refusal leaves the memory untouched
abbrev pub Labelling : Meaning → List Row → List Claim → List ℕ → Result (Unit {0}) Refusal → List ℕ → Type 0
Labelling m rows claims old (Ok done) new = Labelled m rows claims old new
Labelling m rows claims old (Err e) new = (new ≡ old) × Ground m rows claims old (refusal_number e)

-- no other bytes are the label table of these rows over this graph
abbrev pub OneTable : Meaning → List Row → Result (Unit {0}) Refusal → List ℕ → Type 0
OneTable m rows r new =
    IfOk r (λ done. (other : List ℕ) → LabelTable m rows other → take table_bytes other ≡ take table_bytes new)

-- the number of an answer: 0 where the sheet was labelled
abbrev pub answer_number : Result (Unit {0}) Refusal → ℕ
answer_number (Ok done) = 0
answer_number (Err e) = refusal_number e

-- where both were labelled, both tables have the same bytes
abbrev pub SameTable : Result (Unit {0}) Refusal → List ℕ → Result (Unit {0}) Refusal → List ℕ → Type 0
SameTable (Ok a) new (Ok b) other = take table_bytes other ≡ take table_bytes new
SameTable (Ok a) new (Err e) other = Unit {0}
SameTable (Err e) new r other = Unit {0}

-- Any other run, over any graph of the same meaning and into any memory of the same size, gives the same answer and leaves the
-- same table.
abbrev pub Alike : Meaning → List Row → List Claim → List ℕ → Result (Unit {0}) Refusal → List ℕ → Type 0
Alike m rows claims old r new =
    (before after : List ℕ) (answer : Result (Unit {0}) Refusal)
    → length before ≡ length old
    → Labelling m rows claims before answer after
    → (answer_number answer ≡ answer_number r) × SameTable r new answer after

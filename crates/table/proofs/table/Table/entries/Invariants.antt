-- What is still to be set in the bytes as they are now is what was to be set in them at the start.
use Rattle.std.proofs.Common.{◌≡◌, ℕ, ◌<◌}
use Rattle.words.specs.Words.{left}
use Rattle.table.specs.Table.{entries_from, laid, table_reading, within_entries}
use Rattle.table.proofs.table.Table.entries.Given as goal

abbrev pub invariant-loop-entry : goal.invariant-loop-entry
invariant-loop-entry l = (k : ℕ) × (laid (entries_from l.counts (table_reading l.initial.self)) l.initial.bytes ≡ laid (within_entries k l.counts (table_reading l.self)) l.bytes) × (left l.self.forms.words < k)

abbrev pub decreases-loop-entry : goal.decreases-loop-entry
decreases-loop-entry l = left l.self.forms.words

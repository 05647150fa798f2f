-- The loop over the bytes: those behind it are joined.
use Rattle.sets.specs.Sets.{BytesJoined}
use Rattle.labeller.proofs.row_set.RowSet.add_bytes.Given as goal

abbrev pub invariant-loop-i : goal.invariant-loop-i
invariant-loop-i l = BytesJoined l.i l.start l.added l.initial.table l.table

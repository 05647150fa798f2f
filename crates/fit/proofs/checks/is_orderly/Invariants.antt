-- The loop over the rows: the parts of each of those behind it are rows before it.
use Rattle.std.proofs.Common.{ℕ, ◌<◌, get_or}
use Rattle.logic.specs.Rows.{PartsBefore}
use Rattle.logic.specs.declared.row.Row.TheVariants.{Never}
use Rattle.fit.proofs.checks.is_orderly.Given as goal

abbrev pub invariant-loop-i : goal.invariant-loop-i
invariant-loop-i l = (k : ℕ) → k < l.i → PartsBefore l.rows k (get_or l.rows k Never)

-- The loop over the modes in between: what leads through those behind it is in the set.
use Rattle.label_table.specs.Changes.{Gained}
use Rattle.label_table.specs.Entries.{Through}
use Rattle.labeller.proofs.programs.add_through.Given as goal

abbrev pub invariant-loop-w : goal.invariant-loop-w
invariant-loop-w g l = Gained l.set.row l.set.mode (Through l.w l.initial.table l.r l.s l.set.mode) l.initial.table l.table

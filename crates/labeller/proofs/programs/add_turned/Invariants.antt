-- The loop over the modes: of those behind it, the ones that lead to u are in the set.
use Rattle.label_table.specs.Changes.{Gained}
use Rattle.label_table.specs.Entries.{Turned}
use Rattle.labeller.proofs.programs.add_turned.Given as goal

abbrev pub invariant-loop-v : goal.invariant-loop-v
invariant-loop-v g l = Gained l.set.row l.set.mode (Turned l.v l.initial.table l.r l.set.mode) l.initial.table l.table

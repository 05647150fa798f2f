-- The loop over the modes that are let in: the walks that have only those behind it in between are covered.
use Rattle.label_table.specs.Changes.{Covered}
use Rattle.labeller.proofs.closing.Pairs.let_in_below.Given as goal

abbrev pub invariant-loop-k : goal.invariant-loop-k
invariant-loop-k l = Covered l.self.modes l.self.row l.k l.initial.table l.table

-- The loop over the modes: those behind it lead on from k.
use Rattle.label_table.specs.Changes.{Passed}
use Rattle.labeller.proofs.closing.Pairs.let_in.Given as goal

abbrev pub invariant-loop-u : goal.invariant-loop-u
invariant-loop-u l = Passed l.row l.k l.u l.initial.table l.table

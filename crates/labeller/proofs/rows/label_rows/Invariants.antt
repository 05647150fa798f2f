-- The loop over the rows: those behind it are done, and the others are clear.
use Rattle.label_table.specs.Progress.{SoFar}
use Rattle.labeller.proofs.rows.label_rows.Given as goal

abbrev pub invariant-loop-q : goal.invariant-loop-q
invariant-loop-q g l = SoFar (g.G.Graph.meaning l.graph) l.rows l.q l.table

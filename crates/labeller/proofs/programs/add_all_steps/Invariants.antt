-- The loop over the modes: the sets of those behind it are filled.
use Rattle.std.proofs.Common.{◌<◌}
use Rattle.label_table.specs.Changes.{Filled}
use Rattle.label_table.specs.Entries.{OneStep}
use Rattle.labeller.proofs.programs.add_all_steps.Given as goal

abbrev pub invariant-loop-u : goal.invariant-loop-u
invariant-loop-u g l = Filled l.placed.number (λ u v. (u < l.u) × OneStep (g.G.Graph.meaning l.graph) l.initial.table l.placed.row u v) l.initial.table l.table

-- The loop over the modes: of those behind it, the ones where the formula is true are in the set.
use Rattle.std.proofs.Common.{◌<◌}
use Rattle.label_table.specs.Changes.{Gained}
use Rattle.label_table.specs.Entries.{FormulaSays}
use Rattle.labeller.proofs.formulas.label_formula.Given as goal

abbrev pub invariant-loop-u : goal.invariant-loop-u
invariant-loop-u g l = Gained l.placed.number 0 (λ v. (v < l.u) × FormulaSays (g.G.Graph.meaning l.graph) l.initial.table l.placed.row v) l.initial.table l.table

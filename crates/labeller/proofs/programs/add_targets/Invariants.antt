-- The loop over the targets: those before the start are in the set.
use Rattle.std.proofs.Common.{◌≡◌, ◌<◌, true}
use Rattle.label_table.specs.Changes.{Gained}
use Rattle.labeller.proofs.programs.add_targets.Given as goal

abbrev pub invariant-loop-v : goal.invariant-loop-v
invariant-loop-v g l =
    Gained l.set.row l.set.mode (λ v. (v < l.v-iterator.start) × ((g.G.Graph.meaning l.graph).joins l.a l.set.mode v ≡ true)) l.initial.table l.table
    × (l.v-iterator.graph.now ≡ l.graph) × (l.v-iterator.command ≡ l.a) × (l.v-iterator.mode ≡ l.set.mode)

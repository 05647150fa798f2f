-- The loop over the modes from the start: none of those behind it is a target.
use Rattle.std.proofs.Common.{◌≡◌, ℕ, ◌<◌, ◌≤◌, false}
use Rattle.graph.proofs.Graph.next_target.Given as goal

abbrev pub invariant-loop-v : goal.invariant-loop-v
invariant-loop-v g l = (w : ℕ) → l.start ≤ w → w < l.v → (g.Self.Graph.meaning l.self).joins l.a l.u w ≡ false

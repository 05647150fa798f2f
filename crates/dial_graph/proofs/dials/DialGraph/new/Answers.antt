-- Dials that fit make a graph.
use Rattle.dial_graph.proofs.Numbers.{accepted, counts_fit}
use Rattle.dial_graph.proofs.dials.DialGraph.new.Goals as goal

pub invariant_of-result : goal.invariant_of-result
invariant_of-result c = record { counts = counts_fit _ _ _ _ _ c.new.ensures.answer (c.all_fit.ensures.exactly.0 c.if-not-all_fit.false) }

pub returns : goal.returns
returns c = record { made = accepted _ _ _ _ _ c.new.ensures.answer (c.all_fit.ensures.exactly.0 c.if-not-all_fit.false) }

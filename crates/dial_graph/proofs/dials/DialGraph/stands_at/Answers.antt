-- A flag that is there is asked, and one that is not does not stand.
use Rattle.std.proofs.Common.{sym, ◌∙◌}
use Rattle.std.proofs.lemmas.Bool.{le-ltb}
use Rattle.dial_graph.proofs.Lists.{test_at_in, test_at_past}
use Rattle.dial_graph.proofs.dials.DialGraph.stands_at.Goals as goal

pub returns-then-p-self : goal.returns-then-p-self
returns-then-p-self c = record { answer = c.shows.ensures.answer ∙ sym (test_at_in _ c.args.self.now.flags.now c.args.p _ c.if-p-self.true) }

pub returns-else-p-self : goal.returns-else-p-self
returns-else-p-self c = record {
  answer = le-ltb _ _ c.if-p-self.false ∙ sym (test_at_past _ c.args.self.now.flags.now c.args.p c.if-p-self.false);
}

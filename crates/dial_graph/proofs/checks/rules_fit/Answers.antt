-- Each rule is asked.
use Rattle.std.proofs.Common.{rules}
use Rattle.std.proofs.lemmas.Iterator.{cases_from_all, YieldsList-from_slice}
use borrow.Author.Tests.{tests}
use Rattle.graph.proofs.Asked.{decides_each}
use Rattle.dial_graph.specs.Dials.{RuleFits}
use Rattle.dial_graph.proofs.checks.rules_fit.Goals as goal

pub returns : goal.returns
returns c =
    let P = RuleFits c.args.count c.args.commands in
    record {
      exactly = decides_each P c.args.rules.now _ (cases_from_all _ _ _ P (λ r. P r → ⊥) c.all.ensures.ran (YieldsList-from_slice c.args.rules.now (search rules)) (λ r q k. search (rules, tests)) (λ r q k. search (rules, tests)));
    }

-- Each command is asked, and past the last command none leads anywhere.
use Rattle.std.proofs.Common.{rules, refl, arith}
use Rattle.std.proofs.lemmas.Iterator.{cases_from_all, YieldsList-from_range}
use borrow.Author.Tests.{tests}
use Rattle.graph.specs.Stuck.{Stays}
use Rattle.graph.proofs.Asked.{decides_below}
use Rattle.graph.proofs.stuck.all_stay.Goals as goal

pub returns : goal.returns
returns g c =
    let m = g.G.Graph.meaning c.args.g.now in
    let u = c.args.u in
    let n = c.commands.result in
    let d = decides_below (λ a. Stays m a u) n c.all.result (cases_from_all _ _ c.all.result (λ a. Stays m a u) (λ a. Stays m a u → ⊥) c.all.ensures.ran (YieldsList-from_range 0 n n refl (omega arith)) (λ a q k. search (rules, tests)) (λ a q k. search (rules, tests))) in
    record {
      exactly = (
        λ e a v j. d.0 e a (rw (c.commands.ensures.answer) ((g.G.Graph.limits c.args.g.now).joins_in a u v j).0) v j,
        λ every. d.1 (λ a h. every a),
      );
    }

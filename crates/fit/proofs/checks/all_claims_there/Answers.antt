-- Each claim by recursion is each claim by its place.
use Rattle.std.proofs.Common.{rules}
use Rattle.std.proofs.iter.runs.Made.{chains}
use Rattle.std.proofs.lemmas.Bool.Decides.{Decides-like}
use Rattle.std.proofs.lemmas.List.Elements.{All-from_recursion, recursion_from_All}
use Rattle.std.specs.Bool.{Decides}
use Rattle.std.specs.List.{All}
use Rattle.fit.specs.Fit.{ClaimThere}
use Rattle.fit.proofs.checks.all_claims_there.Goals as goal

pub returns : goal.returns
returns g c =
    let P = ClaimThere (g.G.Graph.meaning c.args.graph.now) c.args.rows.now in
    let each : Decides c.all.result (All P c.args.claims.now) = search (rules, chains) in
    record { exactly = Decides-like c.all.result (recursion_from_All P c.args.claims.now) (All-from_recursion P c.args.claims.now) each }

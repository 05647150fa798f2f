-- The graph that was made means what the table means.
use Rattle.std.proofs.Common.{subst, inr}
use Rattle.std.proofs.lemmas.Result.{IfErr-weaker}
use Rattle.graph.specs.Meaning.{Meaning}
use Rattle.label_export.specs.Answers.{RowsGround, TableFits}
use Rattle.label_export.specs.Refusals.{refused_number}
use Rattle.label_export.proofs.export.label_over_table.Goals as goal

pub returns-clause-ground : goal.returns-clause-ground
returns-clause-ground c =
    let made = c.in_ok-graph.ensures.made in
    let fits : TableFits c.args.table.now c.args.modes c.args.commands c.args.flags = record { whole = made.whole; counts = made.counts } in
    IfErr-weaker c.label_over_graph.result _ _
    (λ e p. inr (fits, subst (λ (m : Meaning). RowsGround m c.args.rows.now c.args.memory.now (refused_number e)) made.means p))
    c.label_over_graph.ensures.ground

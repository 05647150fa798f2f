-- What was labelled is the one table, and every other run is alike.
use Rattle.logic.specs.Sheets.{sheet_claims, sheet_rows}
use Rattle.labeller.proofs.Runs.{only_table, runs_alike}
use Rattle.labeller.proofs.labelling.label.Goals as goal

pub returns-clause-only : goal.returns-clause-only
returns-clause-only g c =
    only_table (g.G.Graph.meaning c.args.graph.now) (g.G.Graph.limits c.args.graph.now).modes_high (sheet_rows c.args.sheet.now) (sheet_claims c.args.sheet.now)
    c.args.memory.now c.label_checked.new.memory c.label_checked.result c.label_checked.ensures.labelled

pub returns-clause-alike : goal.returns-clause-alike
returns-clause-alike g c =
    runs_alike (g.G.Graph.meaning c.args.graph.now) (g.G.Graph.limits c.args.graph.now).modes_high (sheet_rows c.args.sheet.now) (sheet_claims c.args.sheet.now)
    c.args.memory.now c.label_checked.new.memory c.label_checked.result c.label_checked.ensures.labelled

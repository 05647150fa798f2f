-- One set more is filled, by the rows of the parts, which stay as they were.
use Rattle.std.proofs.Common.{◌<◌, ◌≤◌, arith}
use Rattle.label_table.specs.Entries.{OneStep}
use Rattle.label_table.proofs.Building.{step_kept, step_still}
use Rattle.label_table.proofs.Changes.{gained_like, filled_more}
use Rattle.labeller.proofs.programs.add_all_steps.Goals as goal

pub loop-u-preserved : goal.loop-u-preserved
loop-u-preserved g c =
    let m = g.G.Graph.meaning c.args.graph.now in
    let few : m.modes ≤ 64 = (g.G.Graph.limits c.args.graph.now).modes_high in
    let old = c.args.table.now in
    let t = c.loop-u.table in
    let new = c.add_steps.new.table in
    let q = c.args.placed.number in
    let row = c.args.placed.row in
    let u = c.loop-u.u in
    let low : u < 64 = omega (arith, c.modes-u-end.ensures.answer) in
    filled_more q u (λ u v. OneStep m old row u v) old t new low c.loop-u.invariant
    (gained_like q u (OneStep m t row u) (OneStep m old row u) t new
    (λ v h s. step_kept m q row old t u v few c.args.placed.parts_before c.loop-u.invariant.only low h s)
    (λ v h s. step_still m q row old t u v few c.args.placed.parts_before c.loop-u.invariant.only low h s)
    c.add_steps.ensures.gained)

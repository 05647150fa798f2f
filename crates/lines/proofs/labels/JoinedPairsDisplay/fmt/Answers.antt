-- The pairs of one mode more are written.
use Rattle.std.proofs.Common.{refl}
use Rattle.label_table.specs.Layout.{pair_bit}
use Rattle.lines.specs.LabelLines.{pairs_of, pairs_below}
use Rattle.lines.proofs.Parts.{none_written, more_written, rows_more, rows_none}
use Rattle.lines.proofs.labels.JoinedPairsDisplay.fmt.Goals as goal

pub loop-u-init : goal.loop-u-init
loop-u-init g c = none_written g.W.Write.write_str_gives _ _ (rows_none _ _)

pub loop-u-preserved : goal.loop-u-preserved
loop-u-preserved g c plain =
    let f = pair_bit c.args.self.now.0.table.now c.args.self.now.0.number in
    let n = c.args.self.now.0.modes in
    let u = c.loop-u.u in
    let before = c.loop-u.invariant plain in
    more_written g.W.Write.write_str_gives _ c.loop-u.f _ (pairs_below f n u) (pairs_of f u n) _ before
    (c.in_ok-write.ensures.writes before.plain refl) (rows_more f n u)

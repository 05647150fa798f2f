-- One mode more is written, or is left out.
use Rattle.std.proofs.Common.{true, false, sym, refl, ◌∙◌}
use Rattle.std.proofs.Output.{has_written_to_eq}
use Rattle.label_table.specs.Layout.{mode_bit}
use Rattle.lines.specs.LabelLines.{mode_part, modes_below}
use Rattle.lines.proofs.Parts.{none_written, more_written, left_out, modes_more, modes_none}
use Rattle.lines.proofs.labels.TrueModesDisplay.fmt.Goals as goal
use Rattle.lines.proofs.labels.TrueModesDisplay.fmt.Goals.{then-is_true+in_ok-write, else-is_true}

pub loop-u-init : goal.loop-u-init
loop-u-init g c = none_written g.W.Write.write_str_gives _ _ (modes_none _)

pub loop-u-preserved : goal.loop-u-preserved
loop-u-preserved g c plain =
    let took = g.W.Write.write_str_gives in
    let f = mode_bit c.args.self.now.0.table.now c.args.self.now.0.number in
    let u = c.loop-u.u-counter in
    elim c.if-is_true.branch [
      | then-is_true+in_ok-write w ↦
          has_written_to_eq took _ _ _ _ w.f-is
          (more_written took _ c.loop-u.f _ (modes_below f u) (mode_part u) _ (c.loop-u.invariant plain) (w.in_ok-write.ensures.writes (c.loop-u.invariant plain).plain refl)
          (modes_more f u true (sym c.is_true.ensures.answer ∙ w.if-is_true.true)))
      | else-is_true w ↦
          has_written_to_eq took _ _ _ _ w.f-is
          (left_out took _ c.loop-u.f (modes_below f u) _ (c.loop-u.invariant plain)
          (modes_more f u false (sym c.is_true.ensures.answer ∙ w.if-is_true.false)))
    ]

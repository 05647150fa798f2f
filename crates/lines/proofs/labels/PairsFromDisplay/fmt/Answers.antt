-- One pair more is written, or is left out.
use Rattle.std.proofs.Common.{true, false, sym, refl, ◌∙◌}
use Rattle.std.proofs.Output.{has_written_to_eq}
use Rattle.label_table.specs.Layout.{pair_bit}
use Rattle.lines.specs.LabelLines.{pair_part, pairs_of}
use Rattle.lines.proofs.Parts.{none_written, more_written, left_out, pairs_more, pairs_none}
use Rattle.lines.proofs.labels.PairsFromDisplay.fmt.Goals as goal
use Rattle.lines.proofs.labels.PairsFromDisplay.fmt.Goals.{then-is_joined+in_ok-write, else-is_joined}

pub loop-v-init : goal.loop-v-init
loop-v-init g c = none_written g.W.Write.write_str_gives _ _ (pairs_none _ _)

pub loop-v-preserved : goal.loop-v-preserved
loop-v-preserved g c plain =
    let took = g.W.Write.write_str_gives in
    let f = pair_bit c.args.self.now.0.table.now c.args.self.now.0.number in
    let u = c.args.self.now.1 in
    let v = c.loop-v.v in
    let before = c.loop-v.invariant plain in
    elim c.if-is_joined.branch [
      | then-is_joined+in_ok-write w ↦
          has_written_to_eq took _ _ _ _ w.f-is
          (more_written took _ c.loop-v.f _ (pairs_of f u v) (pair_part u v) _ before (w.in_ok-write.ensures.writes before.plain refl)
          (pairs_more f u v true (sym c.is_joined.ensures.answer ∙ w.if-is_joined.true)))
      | else-is_joined w ↦
          has_written_to_eq took _ _ _ _ w.f-is
          (left_out took _ c.loop-v.f (pairs_of f u v) _ before
          (pairs_more f u v false (sym c.is_joined.ensures.answer ∙ w.if-is_joined.false)))
    ]

-- The loop over the modes: what those behind it give is written.
use Rattle.std.specs.Fmt.{HasWritten, IsPlainFormatter}
use Rattle.label_table.specs.Layout.{pair_bit}
use Rattle.lines.specs.LabelLines.{pairs_below}
use Rattle.lines.proofs.labels.JoinedPairsDisplay.fmt.Given as goal

abbrev pub invariant-loop-u : goal.invariant-loop-u
invariant-loop-u g l =
    IsPlainFormatter l.initial.f → HasWritten g.W.Write.write_str_gives l.initial.f (pairs_below (pair_bit l.line.table.now l.line.number) l.line.modes l.u) l.f

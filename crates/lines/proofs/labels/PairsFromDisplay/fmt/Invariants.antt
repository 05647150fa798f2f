-- The loop over the modes: what those behind it give is written.
use Rattle.std.specs.Fmt.{HasWritten, IsPlainFormatter}
use Rattle.label_table.specs.Layout.{pair_bit}
use Rattle.lines.specs.LabelLines.{pairs_of}
use Rattle.lines.proofs.labels.PairsFromDisplay.fmt.Given as goal

abbrev pub invariant-loop-v : goal.invariant-loop-v
invariant-loop-v g l =
    IsPlainFormatter l.initial.f → HasWritten g.W.Write.write_str_gives l.initial.f (pairs_of (pair_bit l.line.table.now l.line.number) l.u l.v) l.f

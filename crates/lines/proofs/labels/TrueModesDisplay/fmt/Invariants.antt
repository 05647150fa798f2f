-- The loop over the modes: what those behind it give is written.
use Rattle.std.specs.Fmt.{HasWritten, IsPlainFormatter}
use Rattle.label_table.specs.Layout.{mode_bit}
use Rattle.lines.specs.LabelLines.{modes_below}
use Rattle.lines.proofs.labels.TrueModesDisplay.fmt.Given as goal

abbrev pub invariant-loop-u : goal.invariant-loop-u
invariant-loop-u g l =
    IsPlainFormatter l.initial.f → HasWritten g.W.Write.write_str_gives l.initial.f (modes_below (mode_bit l.line.table.now l.line.number) l.u-counter) l.f

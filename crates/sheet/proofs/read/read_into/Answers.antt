-- The sheet is empty before the lines are read, and again after a fault.
use Rattle.std.proofs.Common.{sym, ◌∙◌}
use Rattle.sheet.proofs.Whole.{sheet_kept, sheet_cleared}
use Rattle.sheet.proofs.read.read_into.Goals as goal

pub returns-then-is_err : goal.returns-then-is_err
returns-then-is_err c = record { answer = sheet_cleared c.args.text.now c.requires _ _ _ (sym c.is_err.ensures.value ∙ c.if-is_err.true) c.clear-then-is_err.ensures.empty c.read_lines-read.ensures.answer }

pub returns-else-is_err : goal.returns-else-is_err
returns-else-is_err c = record { answer = sheet_kept c.args.text.now c.requires _ _ (sym c.is_err.ensures.value ∙ c.if-is_err.false) c.read_lines-read.ensures.answer }

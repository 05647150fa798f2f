-- What is answered is what the grammar says.
use Rattle.std.proofs.Common.{sym, ◌∙◌}
use Rattle.logic.specs.Sheets.{sheet_claims, sheet_rows}
use Rattle.sheet.proofs.Exact.{reads_exactly}
use Rattle.sheet.proofs.Whole.{answer_over}
use Rattle.sheet.proofs.read.read_sheet.Goals as goal

pub returns : goal.returns
returns c =
    let answer = c.read_into.ensures.answer ∙ sym (answer_over c.args.text.now (sheet_rows c.args.sheet.now) (sheet_claims c.args.sheet.now) c.if-text-gt-TEXT_LIMIT.false) in
    record { answer = answer; grammar = reads_exactly _ _ _ _ _ answer }

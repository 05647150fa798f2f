-- The bytes are blank before the lines are read, and again after a fault.
use Rattle.std.proofs.Common.{◌≡◌, length, replicate, sym, ◌∙◌, arith, rules}
use Rattle.table.specs.Table.{blank}
use Rattle.table.proofs.Whole.{table_kept, table_cleared, blank_filled}
use Rattle.table.proofs.read.read_into.Goals as goal

pub returns-then-is_err : goal.returns-then-is_err
returns-then-is_err c =
    let filled : c.fill-then-is_err.new.self ≡ replicate (length c.read_lines-read.new.bytes) 0 = search rules in
    let clean : c.fill-then-is_err.new.self ≡ blank = blank_filled _ _ filled (omega arith) in
    record { answer = table_cleared c.args.text.now c.requires.0 _ _ _ _ (sym c.is_err.ensures.value ∙ c.if-is_err.true) clean c.read_lines-read.ensures.answer }

pub returns-else-is_err : goal.returns-else-is_err
returns-else-is_err c =
    let filled : c.fill.new.self ≡ replicate (length c.args.bytes.now) 0 = search rules in
    record { answer = table_kept c.args.text.now c.requires.0 _ _ _ (sym c.is_err.ensures.value ∙ c.if-is_err.false) (blank_filled _ _ filled c.requires.1) c.read_lines-read.ensures.answer }

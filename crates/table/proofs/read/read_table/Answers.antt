-- What is answered is what the grammar says.
use Rattle.table.proofs.Exact.{reads_exactly}
use Rattle.table.proofs.Whole.{whole_answer}
use Rattle.table.proofs.read.read_table.Goals as goal

pub returns : goal.returns
returns c =
    let answer = whole_answer c.args.text.now c.args.memory.now c.read_into.new.bytes c.read_into.result c.if-memory-lt-TABLE_BYTES.false c.if-text-gt-TEXT_LIMIT.false c.read_into.ensures.answer in
    record { answer = answer; grammar = reads_exactly _ _ _ _ answer }

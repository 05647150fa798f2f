-- All eight bytes joined are the set joined.
use Rattle.std.proofs.Common.{ℕ, ◌+◌, ◌*◌, arith}
use Rattle.sets.proofs.Joins.{joined_all}
use Rattle.label_table.proofs.Changes.{gained_set}
use Rattle.labeller.proofs.row_set.RowSet.add_set.Goals as goal

pub returns : goal.returns
returns c =
    let old = c.args.table.now in
    let new = c.add_bytes.new.table in
    let to = 512 * c.args.self.row + 8 * c.args.self.mode in
    let from = 512 * c.args.other.row + 8 * c.args.other.mode in
    let joined = joined_all to from c.bytes.result.now old new c.bytes.ensures.answer c.add_bytes.ensures.memory in
    record {
      joined = joined;
      gained = gained_set c.args.self.row c.args.self.mode c.args.other.row c.args.other.mode old new (omega arith) joined;
    }

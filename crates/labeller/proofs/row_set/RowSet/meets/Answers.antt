-- A common bit is a common mode, and without one there is none.
use Rattle.std.proofs.Common.{◌≡◌, ◌+◌, ◌*◌, rules, tests}
use Rattle.std.proofs.lemmas.Iterator.{YieldsList-from_slice, YieldsList-from_zip, cases_from_any}
use lib.Bits.{bit_and}
use Rattle.labeller.proofs.Compare.{meet_decides}
use Rattle.labeller.proofs.row_set.RowSet.meets.Goals as goal

pub returns : goal.returns
returns c =
    record {
      exactly = meet_decides c.args.table.now c.bytes.result.now c.bytes-2.result.now (512 * c.args.self.row + 8 * c.args.self.mode) (512 * c.args.other.row + 8 * c.args.other.mode)
          c.fits-table (c.bytes.ensures.size, c.bytes.ensures.answer) (c.bytes-2.ensures.size, c.bytes-2.ensures.answer) c.any.result
          (cases_from_any c.any.new.self _ _ (λ p. bit_and p.0 p.1 ≡ 0 → ⊥) (λ p. bit_and p.0 p.1 ≡ 0) c.any.ensures.ran
          (YieldsList-from_zip (YieldsList-from_slice c.bytes.result.now cc) (YieldsList-from_slice c.bytes-2.result.now cc))
          (λ x q k. search (rules, tests)) (λ x q k. search (rules, tests)));
    }

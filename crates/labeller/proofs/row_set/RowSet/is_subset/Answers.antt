-- A byte that is not within its other has a mode too many, and where all bytes are, all modes are.
use Rattle.std.proofs.Common.{◌≡◌, ◌+◌, ◌*◌, rules, tests}
use Rattle.std.proofs.lemmas.Iterator.{YieldsList-from_slice, YieldsList-from_zip, cases_from_all}
use lib.Bits.{bit_or}
use Rattle.labeller.proofs.Compare.{within_decides}
use Rattle.labeller.proofs.row_set.RowSet.is_subset.Goals as goal

pub returns : goal.returns
returns c =
    record {
      exactly = within_decides c.args.table.now c.bytes.result.now c.bytes-2.result.now (512 * c.args.self.row + 8 * c.args.self.mode) (512 * c.args.other.row + 8 * c.args.other.mode)
          c.fits-table (c.bytes.ensures.size, c.bytes.ensures.answer) (c.bytes-2.ensures.size, c.bytes-2.ensures.answer) c.all.result
          (cases_from_all c.all.new.self _ _ (λ p. bit_or p.0 p.1 ≡ p.1) (λ p. bit_or p.0 p.1 ≡ p.1 → ⊥) c.all.ensures.ran
          (YieldsList-from_zip (YieldsList-from_slice c.bytes.result.now cc) (YieldsList-from_slice c.bytes-2.result.now cc))
          (λ x q k. search (rules, tests)) (λ x q k. search (rules, tests)));
    }

-- Within the bytes the code is the definition; past them nothing is set.
use Rattle.std.proofs.Common.{ℕ, get_or, set, sym, ap}
use lib.Bits.{bit_or}
use Rattle.std.proofs.lemmas.Nat.{one_shl}
use Rattle.sets.specs.Sets.{with_bit}
use Rattle.sets.proofs.Bits.{with_bit_past}
use Rattle.sets.proofs.member.set_bit.Goals as goal

pub returns-then-i-bytes : goal.returns-then-i-bytes
unfolding with_bit
returns-then-i-bytes c = record {
  memory = ap (λ (x : ℕ). set c.args.bytes.now c.args.i (bit_or (get_or c.args.bytes.now c.args.i 0) x)) (one_shl c.args.k 8 c.requires);
}

pub returns-else-i-bytes : goal.returns-else-i-bytes
returns-else-i-bytes c = record { memory = sym (with_bit_past _ _ _ c.if-i-bytes.false) }

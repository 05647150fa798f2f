-- Within the bytes the code is the definition; past them no bit is set.
use Rattle.std.proofs.Common.{sym, refl, ◌∙◌}
use Rattle.std.proofs.lemmas.Bool.{le-ltb}
use Rattle.sets.specs.Sets.{bit}
use Rattle.sets.proofs.Bits.{bit_past}
use Rattle.sets.proofs.member.bit_is_set.Goals as goal

pub returns-then-i-bytes : goal.returns-then-i-bytes
unfolding bit
returns-then-i-bytes c = record { answer = refl }

pub returns-else-i-bytes : goal.returns-else-i-bytes
returns-else-i-bytes c = record {
  answer = le-ltb _ _ c.if-i-bytes.false ∙ sym (bit_past _ _ _ c.if-i-bytes.false);
}

-- The number by which a refusal is known outside of the program, and its ground in words.
use Rattle.std.specs.Prelude.{ℕ, List, codes}
use Rattle.graph.specs.declared.refusal.Refusal.{Refusal}
use Rattle.graph.specs.declared.refusal.Refusal.TheVariants.{MemoryShort, LimitBroken}

-- the memory that was handed is too short: 9; a limit is broken, or a dial or a command that is named is not there: 16
abbrev pub refusal_number : Refusal → ℕ
refusal_number MemoryShort = 9
refusal_number LimitBroken = 16

-- the ground in words
abbrev pub refusal_text : Refusal → List ℕ
refusal_text MemoryShort = codes "the memory is too short"
refusal_text LimitBroken = codes "a limit is broken, or a dial or a command is not there"

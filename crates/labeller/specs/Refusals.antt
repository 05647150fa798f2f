-- The number by which a refusal to label is known outside of the program.
use Rattle.std.specs.Prelude.{ℕ}
use Rattle.labeller.specs.declared.refusal.Refusal.{Refusal}
use Rattle.labeller.specs.declared.refusal.Refusal.TheVariants.{MemoryShort, Unfit}

-- the memory that was handed is too short: 9; the sheet does not fit the graph: 14
abbrev pub refusal_number : Refusal → ℕ
refusal_number MemoryShort = 9
refusal_number Unfit = 14

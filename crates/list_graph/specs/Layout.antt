-- Where in a table of bytes each flag and each arc has its bit, and what setting one changes.
use Rattle.std.specs.Prelude.{ℕ, ◌+◌, ◌*◌, ◌/◌, ◌%◌, Bool, List}
use Rattle.sets.specs.Sets.{bit, with_bit}

-- the bytes of a whole table: 16 flags of 8 bytes, and then 16 commands of 64 modes of 8 bytes
abbrev pub table_bytes : ℕ
table_bytes = 8320

-- the byte that has the bit of flag p at mode u
abbrev pub flag_byte : ℕ → ℕ → ℕ
flag_byte p u = 8 * p + u / 8

-- the byte that has the bit of the arc of command a from mode u to mode v
abbrev pub arc_byte : ℕ → ℕ → ℕ → ℕ
arc_byte a u v = 128 + 512 * a + 8 * u + v / 8

-- the bit of flag p at mode u
abbrev pub flag_bit : List ℕ → ℕ → ℕ → Bool
flag_bit bytes p u = bit bytes (flag_byte p u) (u % 8)

-- the bit of the arc of command a from mode u to mode v
abbrev pub arc_bit : List ℕ → ℕ → ℕ → ℕ → Bool
arc_bit bytes a u v = bit bytes (arc_byte a u v) (v % 8)

-- the bytes with flag p set at mode u
abbrev pub marked : List ℕ → ℕ → ℕ → List ℕ
marked bytes p u = with_bit bytes (flag_byte p u) (u % 8)

-- the bytes with the arc of command a from mode u to mode v set
abbrev pub joined : List ℕ → ℕ → ℕ → ℕ → List ℕ
joined bytes a u v = with_bit bytes (arc_byte a u v) (v % 8)

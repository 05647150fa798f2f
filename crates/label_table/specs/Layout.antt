-- Where in a label table each fact has its bit. A fact is one mode of a formula row, or one pair of modes of a program row.
use Rattle.std.specs.Prelude.{ℕ, ◌+◌, ◌*◌, ◌/◌, ◌%◌, Bool, List}
use Rattle.sets.specs.Sets.{bit}

-- the bytes of a label table: 48 rows, each with a set of modes for each of 64 modes
abbrev pub table_bytes : ℕ
table_bytes = 24576

-- the bit of mode u of formula row r: bit u % 8 of byte u / 8 of the row's block
abbrev pub mode_bit : List ℕ → ℕ → ℕ → Bool
mode_bit bytes r u = bit bytes (512 * r + u / 8) (u % 8)

-- the bit of the pair of u and v of program row r: bit v % 8 of byte 8 * u + v / 8 of the row's block
abbrev pub pair_bit : List ℕ → ℕ → ℕ → ℕ → Bool
pair_bit bytes r u v = bit bytes (512 * r + 8 * u + v / 8) (v % 8)

-- Sets of modes in bytes: which bit says that a mode is in a set, and what adding to a set changes.
use Rattle.std.specs.Prelude.{◌≡◌, ℕ, ◌+◌, ◌/◌, ◌%◌, ◌^◌, ◌<◌, ◌≤◌, Bool, true, ◌||◌, List, ◌==◌, bit_or, slice_index, slice_set}
use Rattle.graph.specs.Meaning.{mode_limit}

-- the bytes of a set: a bit for each of 64 modes
abbrev pub set_bytes : ℕ
set_bytes = 8

-- bit k of byte i is set, where bit 0 is the lowest; past the end no bit is
unfoldable pub bit : List ℕ → ℕ → ℕ → Bool
bit bytes i k = slice_index bytes i / 2 ^ k % 2 == 1

-- the bytes with bit k of byte i set; past the end nothing changes
unfoldable pub with_bit : List ℕ → ℕ → ℕ → List ℕ
with_bit bytes i k = slice_set bytes i (bit_or (slice_index bytes i) (2 ^ k))

-- mode v is in the set that begins at byte `at`
abbrev pub member : List ℕ → ℕ → ℕ → Bool
member bytes at v = bit bytes (at + v / 8) (v % 8)

-- the bytes with mode v put into the set that begins at byte `at`
abbrev pub with_member : List ℕ → ℕ → ℕ → List ℕ
with_member bytes at v = with_bit bytes (at + v / 8) (v % 8)

-- The set at `to` has gained the modes of the set at `from`, and no byte outside of it has changed.
pub record Joined (to from : ℕ) (old new : List ℕ) : Type 0 where
  pub gained : (v : ℕ) → v < mode_limit → member new to v ≡ (member old to v || member old from v)
  pub below : (i : ℕ) → i < to → slice_index new i ≡ slice_index old i
  pub above : (i : ℕ) → to + set_bytes ≤ i → slice_index new i ≡ slice_index old i

-- some mode is in both sets
abbrev pub Meet : List ℕ → ℕ → ℕ → Type 0
Meet bytes a b = (v : ℕ) × (v < mode_limit) × (member bytes a v ≡ true) × (member bytes b v ≡ true)

-- every mode of the first set is in the second
abbrev pub Within : List ℕ → ℕ → ℕ → Type 0
Within bytes a b = (v : ℕ) → v < mode_limit → member bytes a v ≡ true → member bytes b v ≡ true

-- the first k of the bytes from `to` have the bits of a list joined to theirs, and no other byte has changed
pub record BytesJoined (k to : ℕ) (list old new : List ℕ) : Type 0 where
  pub here : (i : ℕ) → i < k → slice_index new (to + i) ≡ bit_or (slice_index old (to + i)) (slice_index list i)
  pub below : (i : ℕ) → i < to → slice_index new i ≡ slice_index old i
  pub above : (i : ℕ) → to + k ≤ i → slice_index new i ≡ slice_index old i

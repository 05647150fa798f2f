-- What a change of one row's block changes, and what it leaves.
use Rattle.std.specs.Prelude.{◌≡◌, ℕ, ◌+◌, ◌*◌, ◌<◌, ◌≤◌, false, ◌⊎◌, List, ◌≢◌, slice_index}
use Rattle.graph.specs.Meaning.{mode_limit}
use Rattle.logic.specs.Truth.{Steps}
use Rattle.logic.proofs.Walks.{Via}
use Rattle.label_table.specs.Layout.{pair_bit}
use Rattle.label_table.specs.Entries.{In, Step}

-- no byte outside of row q's block has changed
pub record Only (q : ℕ) (old new : List ℕ) : Type 0 where
  pub below : (i : ℕ) → i < 512 * q → slice_index new i ≡ slice_index old i
  pub above : (i : ℕ) → 512 * q + 512 ≤ i → slice_index new i ≡ slice_index old i

-- row q's block has no bit
abbrev pub Clear : ℕ → List ℕ → Type 0
Clear q bytes = (u v : ℕ) → u < mode_limit → v < mode_limit → pair_bit bytes q u v ≡ false

-- the rows before row q have no bit of a number that is none of n modes
abbrev pub TidyBefore : ℕ → ℕ → List ℕ → Type 0
TidyBefore n q bytes = (j u v : ℕ) → j < q → u < mode_limit → v < mode_limit → In bytes j u v → v < n

-- the set that row q has for u has gained exactly the modes of P; nothing else has changed
pub record Gained (q u : ℕ) (P : ℕ → Type 0) (old new : List ℕ) : Type 0 where
  pub sound : (v : ℕ) → v < mode_limit → In new q u v → In old q u v ⊎ P v
  pub kept : (v : ℕ) → v < mode_limit → In old q u v → In new q u v
  pub full : (v : ℕ) → v < mode_limit → P v → In new q u v
  pub others : (x v : ℕ) → x < mode_limit → v < mode_limit → (x ≢ u) → pair_bit new q x v ≡ pair_bit old q x v
  pub only : Only q old new

-- row q's block, which was clear, now holds exactly the pairs of P; nothing else has changed
pub record Filled (q : ℕ) (P : ℕ → ℕ → Type 0) (old new : List ℕ) : Type 0 where
  pub sound : (u v : ℕ) → u < mode_limit → v < mode_limit → In new q u v → P u v
  pub full : (u v : ℕ) → u < mode_limit → v < mode_limit → P u v → In new q u v
  pub only : Only q old new

-- In the sets that row q has for the modes below m, each walk of two steps with k in between has become a pair; nothing else
-- has changed.
pub record Passed (q k m : ℕ) (old new : List ℕ) : Type 0 where
  pub sound : (u v : ℕ) → u < m → v < mode_limit → In new q u v → In old q u v ⊎ (In old q u k × In old q k v)
  pub kept : (u v : ℕ) → u < m → v < mode_limit → In old q u v → In new q u v
  pub full : (u v : ℕ) → u < m → v < mode_limit → In old q u k → In old q k v → In new q u v
  pub others : (u v : ℕ) → m ≤ u → u < mode_limit → v < mode_limit → pair_bit new q u v ≡ pair_bit old q u v
  pub only : Only q old new

-- row q's pairs among n modes are now the walks by its pairs before that have only modes below k in between
pub record Covered (n q k : ℕ) (old new : List ℕ) : Type 0 where
  pub sound : (u v : ℕ) → u < n → v < mode_limit → In new q u v → Via (Step n old q) k u v
  pub full : (u v : ℕ) → u < n → v < mode_limit → Via (Step n old q) k u v → In new q u v
  pub others : (u v : ℕ) → n ≤ u → u < mode_limit → v < mode_limit → pair_bit new q u v ≡ pair_bit old q u v
  pub only : Only q old new

-- row q's pairs among n modes are now the walks of any number of steps by its pairs before; nothing else has changed
pub record Closed (n q : ℕ) (old new : List ℕ) : Type 0 where
  pub sound : (u v : ℕ) → u < n → v < mode_limit → In new q u v → Steps (Step n old q) u v
  pub full : (u v : ℕ) → u < n → v < mode_limit → Steps (Step n old q) u v → In new q u v
  pub others : (u v : ℕ) → n ≤ u → u < mode_limit → v < mode_limit → pair_bit new q u v ≡ pair_bit old q u v
  pub only : Only q old new

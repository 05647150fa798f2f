-- A number held between two limits: crates above say by it what counts mean that their constructors refuse.
use Rattle.std.specs.Prelude.{◌≡◌, ℕ, ◌≤◌, min, max}
use Rattle.std.proofs.Common.{arith}

-- the number itself where it is within the limits, else the limit that it is past
abbrev pub held : ℕ → ℕ → ℕ → ℕ
held low high n = max (min n high) low

-- a number within two limits is held to itself
pub held_within : (low high n : ℕ) → low ≤ n → n ≤ high → held low high n ≡ n
held_within low high n l h = omega arith

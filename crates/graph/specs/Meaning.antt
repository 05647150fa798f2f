-- What a graph of modes means, the limits that every graph keeps, and what it is to be the lowest number that passes a test.
use Rattle.std.specs.Prelude.{◌≡◌, ℕ, ◌<◌, ◌≤◌, Bool, true, false, Some, None, Option}

-- the greatest number of modes of a graph
abbrev pub mode_limit : ℕ
mode_limit = 64

-- the greatest number of commands of a graph
abbrev pub command_limit : ℕ
command_limit = 16

-- the greatest number of flags of a graph
abbrev pub flag_limit : ℕ
flag_limit = 16

-- A graph of modes: how many modes, commands and flags it has, each counted from 0; which flag stands at which mode; and
-- which command joins which mode to which. A command may join a mode to several modes, to itself, or to none.
pub record Meaning : Type 0 where
  pub modes : ℕ
  pub commands : ℕ
  pub flags : ℕ
  -- stands p u: flag p stands at mode u
  pub stands : ℕ → ℕ → Bool
  -- joins a u v: command a joins mode u to mode v
  pub joins : ℕ → ℕ → ℕ → Bool

-- What holds of every graph: it has at least one mode and one command, no count is past its limit, and a flag stands, and a
-- command joins, only at numbers that the graph has.
pub record Limits (m : Meaning) : Type 0 where
  pub modes_low : 1 ≤ m.modes
  pub modes_high : m.modes ≤ mode_limit
  pub commands_low : 1 ≤ m.commands
  pub commands_high : m.commands ≤ command_limit
  pub flags_high : m.flags ≤ flag_limit
  pub stands_in : (p u : ℕ) → m.stands p u ≡ true → (p < m.flags) × (u < m.modes)
  pub joins_in : (a u v : ℕ) → m.joins a u v ≡ true → (a < m.commands) × (u < m.modes) × (v < m.modes)

-- The answer is the lowest number at or after the start that passes the test, or none where no such number passes.
abbrev pub Lowest : (ℕ → Bool) → ℕ → Option ℕ → Type 0
Lowest f start (Some v) = (start ≤ v) × (f v ≡ true) × ((w : ℕ) → start ≤ w → w < v → f w ≡ false)
Lowest f start None = (w : ℕ) → start ≤ w → f w ≡ false

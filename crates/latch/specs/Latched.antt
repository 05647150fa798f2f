-- A graph with a latch that one command sets once, and when it can be made.
use Rattle.std.specs.Prelude.{◌≡◌, ℕ, ◌+◌, ◌-◌, ◌*◌, ◌<◌, ◌≤◌, Bool, true, false, cond, not, ◌&&◌, ◌==◌, nat_le, nat_lt}
use Rattle.graph.specs.Meaning.{Meaning, mode_limit, flag_limit}

-- Mode u of the graph below is mode u with the latch open, and mode u + n with the latch set, where n is its number of modes.

-- the mode below
abbrev pub below : ℕ → ℕ → ℕ
below n w = cond (nat_lt w n) w (w - n)

-- whether the latch is set
abbrev pub is_set : ℕ → ℕ → Bool
is_set n w = nat_le n w

-- how a command moves the latch: the one-shot command leads only from open to set, any other keeps it
abbrev pub latch_moves : Bool → Bool → Bool → Bool
latch_moves true before after = not before && after
latch_moves false true after = after
latch_moves false false after = not after

-- The graph with a latch. Flag f, one more than there were, stands where the latch is set; the others stand as below.
abbrev pub latched : ℕ → Meaning → Meaning
latched one_shot m = record {
  modes = 2 * m.modes;
  commands = m.commands;
  flags = m.flags + 1;
  stands = λ p w. cond (p == m.flags) (is_set m.modes w && nat_lt w (2 * m.modes)) (m.stands p (below m.modes w));
  joins = λ a w x. m.joins a (below m.modes w) (below m.modes x) && latch_moves (a == one_shot) (is_set m.modes w) (is_set m.modes x);
}

-- whether there is room for twice the modes and for one more flag
abbrev pub has_room : Meaning → Bool
has_room m = nat_le (2 * m.modes) mode_limit && nat_lt m.flags flag_limit

-- What a latch over any graph means, be there room for it or not: over a graph without room, which the constructor refuses, it
-- changes nothing.
abbrev pub latch_meaning : ℕ → Meaning → Meaning
latch_meaning one_shot m = cond (has_room m) (latched one_shot m) m

-- a latch can be made where there is room for it and the graph has the command
pub record CanLatch (one_shot : ℕ) (m : Meaning) : Type 0 where
  pub modes : 2 * m.modes ≤ mode_limit
  pub flags : m.flags + 1 ≤ flag_limit
  pub command : one_shot < m.commands

-- the ground of a refusal by its number: 16 where there is no room, or the command is not there
abbrev pub Ground : ℕ → Meaning → ℕ → Type 0
Ground one_shot m number = (number ≡ 16) × (CanLatch one_shot m → ⊥)

-- The graph without the arcs of some commands, and when it can be made.
use Rattle.std.specs.Prelude.{◌≡◌, ℕ, ◌<◌, Bool, not, ◌&&◌, List, ◌==◌}
use Rattle.std.proofs.lemmas.Bool.{and_parts}
use Rattle.std.specs.List.{AllByRecursion, list_any}
use Rattle.graph.specs.Meaning.{Meaning, Limits}

-- the command is in the list
abbrev pub listed : List ℕ → ℕ → Bool
listed commands a = list_any (λ b. b == a) commands

-- the graph in which the listed commands join nothing; all else is as it was
abbrev pub barred : List ℕ → Meaning → Meaning
barred commands m = record {
  modes = m.modes;
  commands = m.commands;
  flags = m.flags;
  stands = m.stands;
  joins = λ a u v. not (listed commands a) && m.joins a u v;
}

pub barred_limits : (commands : List ℕ) (m : Meaning) → Limits m → Limits (barred commands m)
barred_limits commands m l = record {
  modes_low = l.modes_low;
  modes_high = l.modes_high;
  commands_low = l.commands_low;
  commands_high = l.commands_high;
  flags_high = l.flags_high;
  stands_in = l.stands_in;
  joins_in = λ a u v e. l.joins_in a u v (and_parts _ _ e).1;
}

-- a bar can be made where the graph has each of the commands
abbrev pub CanBar : List ℕ → Meaning → Type 0
CanBar commands m = AllByRecursion (λ a. a < m.commands) commands

-- the ground of a refusal by its number: 16 where a command is not there
abbrev pub Ground : List ℕ → Meaning → ℕ → Type 0
Ground commands m number = (number ≡ 16) × (CanBar commands m → ⊥)

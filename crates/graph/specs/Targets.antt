-- One step through the targets of a command.
use Rattle.std.specs.Prelude.{◌≡◌, ℕ, ◌+◌, Bool, Some, None, Option}
use Rattle.graph.specs.Meaning.{Lowest}

-- The step from a start gives the lowest target there, and goes on behind it; where there is none it gives none, and stays.
abbrev pub StepsBy : (ℕ → Bool) → ℕ → Option ℕ → ℕ → Type 0
StepsBy f start (Some v) after = Lowest f start (Some v) × (after ≡ v + 1)
StepsBy f start None after = Lowest f start None × (after ≡ start)

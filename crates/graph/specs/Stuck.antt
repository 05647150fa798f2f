-- What a stuck mode is.
use Rattle.std.specs.Prelude.{◌≡◌, ℕ, ◌<◌, true}
use Rattle.graph.specs.Meaning.{Meaning}

-- wherever command a leads from u, it leads back to u
abbrev pub Stays : Meaning → ℕ → ℕ → Type 0
Stays m a u = (v : ℕ) → m.joins a u v ≡ true → v ≡ u

-- u is a mode, and every command that leads somewhere from u leads back to u
abbrev pub Stuck : Meaning → ℕ → Type 0
Stuck m u = (u < m.modes) × ((a : ℕ) → Stays m a u)

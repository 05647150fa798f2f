-- What it is that truth is decided: no law of logic has to be believed on top of the proofs.
use Rattle.std.specs.Prelude.{ℕ, ◌<◌, ◌⊎◌}
use Rattle.graph.specs.Meaning.{Meaning, Limits}
use Rattle.logic.specs.Trees.{Formula, Program}
use Rattle.logic.specs.Truth.{TrueAt, Leads}

-- the one or the other is proved
abbrev pub Decided : Type 0 → Type 0
Decided P = P ⊎ (P → ⊥)

-- Of every graph: a formula is true at a mode or not, and a program leads from one mode to another or not.
abbrev pub TruthDecided : Type 0
TruthDecided =
    (m : Meaning)
    → Limits m
    → ((x : Formula) (u : ℕ) → u < m.modes → Decided (TrueAt m x u))
    × ((r : Program) (u v : ℕ) → u < m.modes → v < m.modes → Decided (Leads m r u v))

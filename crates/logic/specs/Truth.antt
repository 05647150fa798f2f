-- When a formula is true at a mode of a graph, and when a program leads from one mode to another.
use Rattle.std.specs.Prelude.{◌≡◌, ℕ, zero, suc, true, ◌⊎◌}
use Rattle.graph.specs.Meaning.{Meaning}
use Rattle.logic.specs.Trees.{Formula, Program, never, flag, negation, both, either, implies, box, diamond, command, sequence, choice, repetition, converse, test}

-- exactly k steps
abbrev pub Walk : (ℕ → ℕ → Type 0) → ℕ → ℕ → ℕ → Type 0
Walk Step zero u v = u ≡ v
Walk Step (suc k) u v = (w : ℕ) × Step u w × Walk Step k w v

-- some finite number of steps, none among them
abbrev pub Steps : (ℕ → ℕ → Type 0) → ℕ → ℕ → Type 0
Steps Step u v = (k : ℕ) × Walk Step k u v

abbrev mutual
  pub TrueAt : Meaning → Formula → ℕ → Type 0
  TrueAt m never u = ⊥
  TrueAt m (flag p) u = m.stands p u ≡ true
  TrueAt m (negation x) u = TrueAt m x u → ⊥
  TrueAt m (both x y) u = TrueAt m x u × TrueAt m y u
  TrueAt m (either x y) u = TrueAt m x u ⊎ TrueAt m y u
  TrueAt m (implies x y) u = TrueAt m x u → TrueAt m y u
  TrueAt m (box r x) u = (v : ℕ) → Leads m r u v → TrueAt m x v
  TrueAt m (diamond r x) u = (v : ℕ) × Leads m r u v × TrueAt m x v

  pub Leads : Meaning → Program → ℕ → ℕ → Type 0
  Leads m (command a) u v = m.joins a u v ≡ true
  Leads m (sequence r s) u v = (w : ℕ) × Leads m r u w × Leads m s w v
  Leads m (choice r s) u v = Leads m r u v ⊎ Leads m s u v
  Leads m (repetition r) u v = Steps (Leads m r) u v
  Leads m (converse r) u v = Leads m r v u
  Leads m (test x) u v = (u ≡ v) × TrueAt m x u

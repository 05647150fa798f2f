-- A program leads from modes only to modes and to modes only from modes, so that modes suffice wherever truth speaks of numbers.
use Rattle.std.proofs.Common.{ℕ, ◌<◌, sym, subst, ⊎_elim}
use Rattle.graph.specs.Meaning.{Meaning, Limits}
use Rattle.logic.specs.Trees.{Formula, Program, box, diamond, command, sequence, choice, repetition, converse, test}
use Rattle.logic.specs.Truth.{TrueAt, Leads}
use Rattle.logic.proofs.Walks.{Via, kept_on, kept_back, steps_via}

module _ (m : Meaning) (l : Limits m) where
  -- the one end is a mode exactly where the other is
  both_ends : (r : Program) (u v : ℕ) → Leads m r u v → (u < m.modes → v < m.modes) × (v < m.modes → u < m.modes)
  both_ends (command a) u v j = let in' = l.joins_in a u v j in (λ _. in'.2, λ _. in'.1)
  both_ends (sequence r s) u v (w, p, q) =
      (λ h. (both_ends s w v q).0 ((both_ends r u w p).0 h), λ h. (both_ends r u w p).1 ((both_ends s w v q).1 h))
  both_ends (choice r s) u v j = ⊎_elim (both_ends r u v) (both_ends s u v) j
  both_ends (repetition r) u v (k, walk) = (
    λ h. kept_on (Leads m r) (λ x. x < m.modes) (λ w x i p. (both_ends r w x p).0 i) k u v h walk,
    λ h. kept_back (Leads m r) (λ x. x < m.modes) (λ w x i p. (both_ends r w x p).1 i) k u v h walk,
  )
  both_ends (converse r) u v j = let e = both_ends r v u j in (e.1, e.0)
  both_ends (test x) u v (e, t) = (λ h. subst (λ (w : ℕ). w < m.modes) e h, λ h. subst (λ (w : ℕ). w < m.modes) (sym e) h)

  -- from a mode a program leads only to modes
  pub leads_to_mode : (r : Program) (u v : ℕ) → u < m.modes → Leads m r u v → v < m.modes
  leads_to_mode r u v h j = (both_ends r u v j).0 h

  -- to a mode a program leads only from modes
  pub leads_from_mode : (r : Program) (u v : ℕ) → v < m.modes → Leads m r u v → u < m.modes
  leads_from_mode r u v h j = (both_ends r u v j).1 h

  module _ (r : Program) (u : ℕ) (h : u < m.modes) where
    -- a box speaks of modes alone
    pub box_of_modes : (x : Formula) → ((v : ℕ) → v < m.modes → Leads m r u v → TrueAt m x v) → TrueAt m (box r x) u
    box_of_modes x all v j = all v (leads_to_mode r u v h j) j

    -- what a diamond finds is a mode
    pub diamond_at_mode : (x : Formula) → TrueAt m (diamond r x) u → (v : ℕ) × (v < m.modes) × (Leads m r u v × TrueAt m x v)
    diamond_at_mode x (v, j, t) = (v, leads_to_mode r u v h j, (j, t))

    -- a sequence goes by a mode
    pub sequence_by_mode : (s : Program) (v : ℕ) → Leads m (sequence r s) u v → (w : ℕ) × (w < m.modes) × (Leads m r u w × Leads m s w v)
    sequence_by_mode s v (w, j, k) = (w, leads_to_mode r u w h j, (j, k))

    -- a repetition goes by middles that are modes
    pub repetition_via : (v : ℕ) → Leads m (repetition r) u v → Via (Leads m r) m.modes u v
    repetition_via v j = steps_via (Leads m r) m.modes (leads_to_mode r) u v h j

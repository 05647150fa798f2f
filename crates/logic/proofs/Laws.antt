-- Laws of truth: box against diamond, and repetition against converse.
use Rattle.std.proofs.Common.{ℕ, ◌<◌, inl, inr}
use Rattle.graph.specs.Meaning.{Meaning, Limits}
use Rattle.logic.specs.Trees.{Formula, Program, negation, box, diamond, repetition, converse}
use Rattle.logic.specs.Truth.{TrueAt, Leads}
use Rattle.logic.specs.Decided.{Decided}
use Rattle.logic.proofs.Walks.{steps_turned, steps_back}
use Rattle.logic.proofs.Within.{leads_to_mode}
use Rattle.logic.proofs.Deciding.{truth_decided}

-- of what is decided, what is not false is true
not_false : {P : Type 0} → Decided P → ((P → ⊥) → ⊥) → P
not_false (inl p) n = p
not_false (inr q) n = absurd (n q)

module _ (m : Meaning) (r : Program) (x : Formula) (u : ℕ) where
  -- if it is true after every run, then it is false after none
  pub box_no_diamond : TrueAt m (box r x) u → TrueAt m (diamond r (negation x)) u → ⊥
  box_no_diamond all (v, j, n) = n (all v j)

  -- if it is true after some run, then it is not false after every run
  pub diamond_no_box : TrueAt m (diamond r x) u → TrueAt m (box r (negation x)) u → ⊥
  diamond_no_box (v, j, t) none = none v j t

  module _ (l : Limits m) (h : u < m.modes) where
    -- if it is false after no run, then it is true after every run
    pub no_diamond_box : (TrueAt m (diamond r (negation x)) u → ⊥) → TrueAt m (box r x) u
    no_diamond_box none v j = not_false (truth_decided m l x v (leads_to_mode m l r u v h j)) (λ n. none (v, j, n))

    -- if it is not false after every run, then it is true after some run
    pub no_box_diamond : (TrueAt m (box r (negation x)) u → ⊥) → TrueAt m (diamond r x) u
    no_box_diamond n = not_false (truth_decided m l (diamond r x) u h) (λ none. n (λ v j t. none (v, j, t)))

module _ (m : Meaning) (r : Program) (u v : ℕ) where
  -- a repetition of the converse is the converse of the repetition
  pub repetition_turned : Leads m (repetition (converse r)) u v → Leads m (converse (repetition r)) u v
  repetition_turned = steps_turned (Leads m r) u v

  pub converse_repeated : Leads m (converse (repetition r)) u v → Leads m (repetition (converse r)) u v
  converse_repeated = steps_back (Leads m r) u v

-- Walks of any relation: joined, turned, kept within a range, and found by letting in one middle after the other.
use Rattle.std.proofs.Common.{◌≡◌, ℕ, zero, suc, ◌+◌, ◌<◌, ◌≤◌, ◌⊎◌, sym, refl, subst, inl, inr, ⊎_elim, arith}
use Rattle.std.proofs.lemmas.Bool.{cases_eq}
use Rattle.logic.specs.Truth.{Walk, Steps}

-- From u to v by middles below a number. By no middles: no step or one step. With k as one more: as before, or as before to k
-- and then from k.
abbrev pub Via : (ℕ → ℕ → Type 0) → ℕ → ℕ → ℕ → Type 0
Via R zero u v = (u ≡ v) ⊎ R u v
Via R (suc k) u v = Via R k u v ⊎ (Via R k u k × Via R k k v)

-- a walk of a number of steps that is written in another way
same_count : (R : ℕ → ℕ → Type 0) (k l u v : ℕ) → k ≡ l → Walk R k u v → Walk R l u v
same_count R k l u v e walk = subst (λ (n : ℕ). Walk R n u v) e walk

module _ (R : ℕ → ℕ → Type 0) where
  -- a walk and then a walk is a walk
  pub walks_joined : (k l u w v : ℕ) → Walk R k u w → Walk R l w v → Walk R (k + l) u v
  walks_joined zero l u w v e walk =
      same_count R l (0 + l) u v (omega arith) (subst (λ (x : ℕ). Walk R l x v) (sym e) walk)
  walks_joined (suc k) l u w v (x, step, rest) walk =
      same_count R (suc (k + l)) (suc k + l) u v (omega arith) (x, step, walks_joined k l x w v rest walk)

  -- one more step at the end
  pub step_at_end : (k u w v : ℕ) → Walk R k u w → R w v → Walk R (suc k) u v
  step_at_end zero u w v e step = (v, subst (λ (x : ℕ). R x v) (sym e) step, refl)
  step_at_end (suc k) u w v (x, first, rest) step = (x, first, step_at_end k x w v rest step)

  -- some steps and then some steps are some steps
  pub steps_joined : (u w v : ℕ) → Steps R u w → Steps R w v → Steps R u v
  steps_joined u w v (k, p) (l, q) = (k + l, walks_joined k l u w v p q)

  -- what every step keeps holds at the end of a walk if it holds at the start
  pub kept_on : (P : ℕ → Type 0) → ((w x : ℕ) → P w → R w x → P x) → (k u v : ℕ) → P u → Walk R k u v → P v
  kept_on P keeps zero u v h e = subst P e h
  kept_on P keeps (suc k) u v h (w, step, rest) = kept_on P keeps k w v (keeps u w h step) rest

  -- what every step backwards keeps holds at the start of a walk if it holds at the end
  pub kept_back : (P : ℕ → Type 0) → ((w x : ℕ) → P x → R w x → P w) → (k u v : ℕ) → P v → Walk R k u v → P u
  kept_back P keeps zero u v h e = subst P (sym e) h
  kept_back P keeps (suc k) u v h (w, step, rest) = keeps u w (kept_back P keeps k w v h rest) step

  -- a walk is a walk of another relation, if that has every step from where the walk can be
  pub walk_mapped : (S : ℕ → ℕ → Type 0) (P : ℕ → Type 0) → ((w x : ℕ) → P w → R w x → P x × S w x)
      → (k u v : ℕ) → P u → Walk R k u v → Walk S k u v
  walk_mapped S P steps zero u v h e = e
  walk_mapped S P steps (suc k) u v h (w, step, rest) =
      let s = steps u w h step in (w, s.1, walk_mapped S P steps k w v s.0 rest)

  -- what goes by middles is some number of steps
  pub via_steps : (k u v : ℕ) → Via R k u v → Steps R u v
  via_steps zero u v (inl e) = (0, e)
  via_steps zero u v (inr step) = (1, (v, step, refl))
  via_steps (suc k) u v (inl p) = via_steps k u v p
  via_steps (suc k) u v (inr p) = steps_joined u k v (via_steps k u k p.0) (via_steps k k v p.1)

  to_middle : (k u : ℕ) → Via R (suc k) u k → Via R k u k
  to_middle k u (inl p) = p
  to_middle k u (inr p) = p.0

  from_middle : (k v : ℕ) → Via R (suc k) k v → Via R k k v
  from_middle k v (inl p) = p
  from_middle k v (inr p) = p.1

  -- more middles lose nothing
  pub via_more : (k u v : ℕ) → Via R 0 u v → Via R k u v
  via_more zero u v p = p
  via_more (suc k) u v p = inl (via_more k u v p)

  past_middle : (k u w v : ℕ) → ((x y : ℕ) → Via R k x w → Via R k w y → Via R k x y)
      → Via R (suc k) u w → Via R (suc k) w v → Via R (suc k) u v
  past_middle k u w v joined (inl p) (inl q) = inl (joined u v p q)
  past_middle k u w v joined (inl p) (inr q) = inr (joined u k p q.0, q.1)
  past_middle k u w v joined (inr p) (inl q) = inr (p.0, joined k v p.1 q)
  past_middle k u w v joined (inr p) (inr q) = inr (p.0, q.1)

  -- every number below k is a middle
  pub via_joined : (k u w v : ℕ) → w < k → Via R k u w → Via R k w v → Via R k u v
  via_joined zero u w v h p q = absurd (omega arith)
  via_joined (suc k) u w v h p q =
      ⊎_elim
      (λ e. inr (to_middle k u (subst (λ (x : ℕ). Via R (suc k) u x) e p), from_middle k v (subst (λ (x : ℕ). Via R (suc k) x v) e q)))
      (λ other. past_middle k u w v (λ x y. via_joined k x w y (omega arith)) p q)
      (cases_eq w k)

  module _ (n : ℕ) (stays : (u v : ℕ) → u < n → R u v → v < n) where
    walk_via : (k u v : ℕ) → u < n → Walk R k u v → Via R n u v
    walk_via zero u v h e = via_more n u v (inl e)
    walk_via (suc k) u v h (w, step, rest) =
        let i = stays u w h step in via_joined n u w v i (via_more n u w (inr step)) (walk_via k w v i rest)

    -- from below n, and with steps that stay below n, any number of steps goes by middles below n
    pub steps_via : (u v : ℕ) → u < n → Steps R u v → Via R n u v
    steps_via u v h (k, walk) = walk_via k u v h walk

-- what goes by middles goes by the same middles of another relation, if that has every step between numbers below n
pub via_mapped : (R S : ℕ → ℕ → Type 0) (n : ℕ) → ((u v : ℕ) → u < n → v < n → R u v → S u v)
    → (k u v : ℕ) → k ≤ n → u < n → v < n → Via R k u v → Via S k u v
via_mapped R S n each zero u v l h i (inl e) = inl e
via_mapped R S n each zero u v l h i (inr step) = inr (each u v h i step)
via_mapped R S n each (suc k) u v l h i (inl p) = inl (via_mapped R S n each k u v (omega arith) h i p)
via_mapped R S n each (suc k) u v l h i (inr (p, q)) =
    inr (via_mapped R S n each k u k (omega arith) h (omega arith) p, via_mapped R S n each k k v (omega arith) (omega arith) i q)

-- a walk backwards is a walk of the converse relation
pub walk_turned : (R : ℕ → ℕ → Type 0) (k u v : ℕ) → Walk (λ x y. R y x) k u v → Walk R k v u
walk_turned R zero u v e = sym e
walk_turned R (suc k) u v (w, step, rest) = step_at_end R k v w u (walk_turned R k w v rest) step

-- some steps of the converse relation are some steps backwards
pub steps_turned : (R : ℕ → ℕ → Type 0) (u v : ℕ) → Steps (λ x y. R y x) u v → Steps R v u
steps_turned R u v (k, walk) = (k, walk_turned R k u v walk)

-- some steps backwards are some steps of the converse relation
pub steps_back : (R : ℕ → ℕ → Type 0) (u v : ℕ) → Steps R v u → Steps (λ x y. R y x) u v
steps_back R u v s = steps_turned (λ x y. R y x) v u s

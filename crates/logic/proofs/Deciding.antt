-- Truth is decided: by recursion on the tree, with a search through the modes, and with middles for a repetition.
use Rattle.std.proofs.Common.{◌≡◌, ℕ, zero, suc, ◌<◌, ◌≤◌, Bool, true, false, ◌⊎◌, sym, refl, subst, inl, inr, ⊎_elim, arith}
use Rattle.std.proofs.lemmas.Bool.{cases_eq, false≢true}
use Rattle.graph.specs.Meaning.{Meaning, Limits}
use Rattle.logic.specs.Trees.{Formula, Program, never, flag, negation, both, either, implies, box, diamond, command, sequence, choice, repetition, converse, test}
use Rattle.logic.specs.Truth.{TrueAt, Leads}
use Rattle.logic.specs.Decided.{Decided, TruthDecided}
use Rattle.logic.proofs.Walks.{Via, via_steps}
use Rattle.logic.proofs.Within.{box_of_modes, diamond_at_mode, sequence_by_mode, repetition_via}

-- a test says yes or not
decided_test : (b : Bool) → Decided (b ≡ true)
decided_test true = inl refl
decided_test false = inr false≢true

-- two statements that are decided, joined
module _ {P Q : Type 0} where
  pub decided_like : (P → Q) → (Q → P) → Decided P → Decided Q
  decided_like f g (inl p) = inl (f p)
  decided_like f g (inr n) = inr (λ q. n (g q))

  pub decided_both : Decided P → Decided Q → Decided (P × Q)
  decided_both (inl p) (inl q) = inl (p, q)
  decided_both (inl p) (inr n) = inr (λ h. n h.1)
  decided_both (inr n) d = inr (λ h. n h.0)

  pub decided_either : Decided P → Decided Q → Decided (P ⊎ Q)
  decided_either (inl p) d = inl (inl p)
  decided_either (inr n) (inl q) = inl (inr q)
  decided_either (inr n) (inr o) = inr (λ h. ⊎_elim n o h)

  pub decided_if : Decided P → Decided Q → Decided (P → Q)
  decided_if (inl p) (inl q) = inl (λ _. q)
  decided_if (inl p) (inr n) = inr (λ f. n (f p))
  decided_if (inr n) d = inl (λ p. absurd (n p))

-- what is decided is decided where it is denied
pub decided_not : {P : Type 0} → Decided P → Decided (P → ⊥)
decided_not (inl p) = inr (λ n. n p)
decided_not (inr n) = inl n

module _ (P : ℕ → Type 0) where
  -- the numbers below suc n are n and those below n
  none_more : (n : ℕ) → (((k : ℕ) × (k < n) × P k) → ⊥) → (P n → ⊥) → ((k : ℕ) × (k < suc n) × P k) → ⊥
  none_more n below here (k, h, p) =
      ⊎_elim (λ e. here (subst P e p)) (λ other. below (k, omega arith, p)) (cases_eq k n)

  all_more : (n : ℕ) → ((k : ℕ) → k < n → P k) → P n → (k : ℕ) → k < suc n → P k
  all_more n below here k h = ⊎_elim (λ e. subst P (sym e) here) (λ other. below k (omega arith)) (cases_eq k n)

  some_step : (n : ℕ) → Decided ((k : ℕ) × (k < n) × P k) → Decided (P n) → Decided ((k : ℕ) × (k < suc n) × P k)
  some_step n (inl (k, h, p)) d = inl (k, omega arith, p)
  some_step n (inr below) (inl p) = inl (n, omega arith, p)
  some_step n (inr below) (inr here) = inr (none_more n below here)

  -- a search below n
  pub decided_some : (n : ℕ) → ((k : ℕ) → k < n → Decided (P k)) → Decided ((k : ℕ) × (k < n) × P k)
  decided_some zero each = inr (λ h. let l = h.1 in omega arith)
  decided_some (suc n) each = some_step n (decided_some n (λ k h. each k (omega arith))) (each n (omega arith))

  all_step : (n : ℕ) → Decided ((k : ℕ) → k < n → P k) → Decided (P n) → Decided ((k : ℕ) → k < suc n → P k)
  all_step n (inl below) (inl here) = inl (all_more n below here)
  all_step n (inl below) (inr not_here) = inr (λ f. not_here (f n (omega arith)))
  all_step n (inr not_below) d = inr (λ f. not_below (λ k h. f k (omega arith)))

  -- a check of all below n
  pub decided_all : (n : ℕ) → ((k : ℕ) → k < n → Decided (P k)) → Decided ((k : ℕ) → k < n → P k)
  decided_all zero each = inl (λ k h. absurd (omega arith))
  decided_all (suc n) each = all_step n (decided_all n (λ k h. each k (omega arith))) (each n (omega arith))

-- what goes by middles below k is decided, if each step is
pub decided_via : (R : ℕ → ℕ → Type 0) (n : ℕ) → ((u v : ℕ) → u < n → v < n → Decided (R u v))
    → (k u v : ℕ) → k ≤ n → u < n → v < n → Decided (Via R k u v)
decided_via R n each zero u v l h i = decided_either (cases_eq u v) (each u v h i)
decided_via R n each (suc k) u v l h i =
    let lower : k ≤ n = omega arith in
    let middle : k < n = omega arith in
    decided_either (decided_via R n each k u v lower h i)
    (decided_both (decided_via R n each k u k lower h middle) (decided_via R n each k k v lower middle i))

module _ (m : Meaning) (l : Limits m) where
  mutual
    -- a formula is true at a mode or not
    pub truth_decided : (x : Formula) (u : ℕ) → u < m.modes → Decided (TrueAt m x u)
    truth_decided never u h = inr (λ t. t)
    truth_decided (flag p) u h = decided_test (m.stands p u)
    truth_decided (negation x) u h = decided_not (truth_decided x u h)
    truth_decided (both x y) u h = decided_both (truth_decided x u h) (truth_decided y u h)
    truth_decided (either x y) u h = decided_either (truth_decided x u h) (truth_decided y u h)
    truth_decided (implies x y) u h = decided_if (truth_decided x u h) (truth_decided y u h)
    truth_decided (box r x) u h =
        decided_like (box_of_modes m l r u h x) (λ all v i. all v)
        (decided_all (λ v. Leads m r u v → TrueAt m x v) m.modes (λ v i. decided_if (leads_decided r u v h i) (truth_decided x v i)))
    truth_decided (diamond r x) u h =
        decided_like (λ s. (s.0, s.2.0, s.2.1)) (diamond_at_mode m l r u h x)
        (decided_some (λ v. Leads m r u v × TrueAt m x v) m.modes (λ v i. decided_both (leads_decided r u v h i) (truth_decided x v i)))

    -- a program leads from one mode to another or not
    pub leads_decided : (r : Program) (u v : ℕ) → u < m.modes → v < m.modes → Decided (Leads m r u v)
    leads_decided (command a) u v h i = decided_test (m.joins a u v)
    leads_decided (sequence r s) u v h i =
        decided_like (λ j. (j.0, j.2.0, j.2.1)) (sequence_by_mode m l r u h s v)
        (decided_some (λ w. Leads m r u w × Leads m s w v) m.modes (λ w b. decided_both (leads_decided r u w h b) (leads_decided s w v b i)))
    leads_decided (choice r s) u v h i = decided_either (leads_decided r u v h i) (leads_decided s u v h i)
    leads_decided (repetition r) u v h i =
        decided_like (via_steps (Leads m r) m.modes u v) (repetition_via m l r u h v)
        (decided_via (Leads m r) m.modes (leads_decided r) m.modes u v (omega arith) h i)
    leads_decided (converse r) u v h i = leads_decided r v u i h
    leads_decided (test x) u v h i = decided_both (cases_eq u v) (truth_decided x u h)

-- truth is decided
pub all_decided : TruthDecided
all_decided m l = (truth_decided m l, leads_decided m l)

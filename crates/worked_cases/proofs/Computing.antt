-- Tests that compute whether a formula is true at a mode and whether a program leads from one mode to another: a search through
-- the modes, and middles for a repetition.
use Rattle.std.proofs.Common.{◌≡◌, ℕ, zero, suc, ◌<◌, ◌≤◌, Bool, true, false, not, ◌&&◌, ◌||◌, eqb, ◌⊎◌, Decides, sym, refl, subst, inl, inr, ⊎_elim, arith}
use Rattle.std.proofs.lemmas.Bool.{cases_eq, cases_Bool, both_ways, false≢true, not-true, not_from_false, and_parts, and_from, or_cases, or_left, or_right, eqb-true, eq-eqb}
use Rattle.graph.specs.Meaning.{Meaning, Limits}
use Rattle.logic.specs.Trees.{Formula, Program, never, flag, negation, both, either, implies, box, diamond, command, sequence, choice, repetition, converse, test}
use Rattle.logic.specs.Truth.{TrueAt, Leads}
use Rattle.logic.proofs.Walks.{Via, via_steps}
use Rattle.logic.proofs.Within.{box_of_modes, diamond_at_mode, sequence_by_mode, repetition_via}

-- some number below n passes
abbrev pub some_below : (ℕ → Bool) → ℕ → Bool
some_below f zero = false
some_below f (suc n) = some_below f n || f n

-- every number below n passes
abbrev pub every_below : (ℕ → Bool) → ℕ → Bool
every_below f zero = true
every_below f (suc n) = every_below f n && f n

-- from u to v by middles below a number, each step of which passes
abbrev pub via_test : (ℕ → ℕ → Bool) → ℕ → ℕ → ℕ → Bool
via_test f zero u v = eqb u v || f u v
via_test f (suc k) u v = via_test f k u v || (via_test f k u k && via_test f k k v)

abbrev mutual
  -- the formula is true at u
  pub holds : Meaning → Formula → ℕ → Bool
  holds m never u = false
  holds m (flag p) u = m.stands p u
  holds m (negation x) u = not (holds m x u)
  holds m (both x y) u = holds m x u && holds m y u
  holds m (either x y) u = holds m x u || holds m y u
  holds m (implies x y) u = not (holds m x u) || holds m y u
  holds m (box r x) u = every_below (λ v. not (goes m r u v) || holds m x v) m.modes
  holds m (diamond r x) u = some_below (λ v. goes m r u v && holds m x v) m.modes

  -- the program leads from u to v
  pub goes : Meaning → Program → ℕ → ℕ → Bool
  goes m (command a) u v = m.joins a u v
  goes m (sequence r s) u v = some_below (λ w. goes m r u w && goes m s w v) m.modes
  goes m (choice r s) u v = goes m r u v || goes m s u v
  goes m (repetition r) u v = via_test (goes m r) m.modes u v
  goes m (converse r) u v = goes m r v u
  goes m (test x) u v = eqb u v && holds m x u

module _ {P Q : Type 0} where
  -- what decides one statement decides another that is equivalent to it
  decides_like : (b : Bool) → (P → Q) → (Q → P) → Decides b P → Decides b Q
  decides_like b f g d = (λ e. f (d.0 e), λ q. d.1 (g q))

  -- two tests, joined by and, decide whether both statements hold
  decides_both : (b c : Bool) → Decides b P → Decides c Q → Decides (b && c) (P × Q)
  decides_both b c d e =
      (λ t. let p = and_parts b c t in (d.0 p.0, e.0 p.1), λ q. and_from b c (d.1 q.0) (e.1 q.1))

  -- two tests, joined by or, decide whether one of the statements holds
  decides_either : (b c : Bool) → Decides b P → Decides c Q → Decides (b || c) (P ⊎ Q)
  decides_either b c d e =
      (λ t. ⊎_elim (λ x. inl (d.0 x)) (λ x. inr (e.0 x)) (or_cases b c t), λ q. ⊎_elim (λ p. or_left b c (d.1 p)) (λ p. or_right b c (e.1 p)) q)

  -- the one test turned, or the other, decides whether the one statement implies the other
  decides_if : (b c : Bool) → Decides b P → Decides c Q → Decides (not b || c) (P → Q)
  decides_if b c d e = (
    λ t p. ⊎_elim (λ x. absurd (both_ways b (not-true b x) (d.1 p))) e.0 (or_cases (not b) c t),
    λ f. ⊎_elim (λ x. or_right (not b) c (e.1 (f (d.0 x)))) (λ x. or_left (not b) c (not_from_false b x)) (cases_Bool b),
  )

-- a test turned decides the denial
decides_not : {P : Type 0} (b : Bool) → Decides b P → Decides (not b) (P → ⊥)
decides_not b d = (
  λ t p. both_ways b (not-true b t) (d.1 p),
  λ n. ⊎_elim (λ x. absurd (n (d.0 x))) (λ x. not_from_false b x) (cases_Bool b),
)

-- the test of two numbers decides whether they are equal
decides_same : (u v : ℕ) → Decides (eqb u v) (u ≡ v)
decides_same u v = (eqb-true u v, eq-eqb u v)

module _ (P : ℕ → Type 0) where
  -- the numbers below suc n are n and those below n: a number of one of the two kinds is below suc n
  some_more : (n : ℕ) → ((k : ℕ) × (k < n) × P k) ⊎ P n → (k : ℕ) × (k < suc n) × P k
  some_more n (inl (k, h, p)) = (k, omega arith, p)
  some_more n (inr p) = (n, omega arith, p)

  -- a number below suc n is of one of the two kinds
  some_less : (n : ℕ) → ((k : ℕ) × (k < suc n) × P k) → ((k : ℕ) × (k < n) × P k) ⊎ P n
  some_less n (k, h, p) = ⊎_elim (λ e. inr (subst P e p)) (λ other. inl (k, omega arith, p)) (cases_eq k n)

  -- what holds of all of both kinds holds of all below suc n
  every_more : (n : ℕ) → (((k : ℕ) → k < n → P k) × P n) → (k : ℕ) → k < suc n → P k
  every_more n (below, here) k h = ⊎_elim (λ e. subst P (sym e) here) (λ other. below k (omega arith)) (cases_eq k n)

  module _ (f : ℕ → Bool) where
    -- a search below n decides whether there is such a number
    decides_some : (n : ℕ) → ((k : ℕ) → k < n → Decides (f k) (P k)) → Decides (some_below f n) ((k : ℕ) × (k < n) × P k)
    decides_some zero each = (λ e. absurd (false≢true e), λ s. let h = s.1 in absurd (omega arith))
    decides_some (suc n) each =
        decides_like (some_below f n || f n) (some_more n) (some_less n)
        (decides_either (some_below f n) (f n) (decides_some n (λ k h. each k (omega arith))) (each n (omega arith)))

    -- a check of all below n decides whether it is so of all of them
    pub decides_every : (n : ℕ) → ((k : ℕ) → k < n → Decides (f k) (P k)) → Decides (every_below f n) ((k : ℕ) → k < n → P k)
    decides_every zero each = (λ e k h. absurd (omega arith), λ s. refl)
    decides_every (suc n) each =
        decides_like (every_below f n && f n) (every_more n) (λ all. (λ k h. all k (omega arith), all n (omega arith)))
        (decides_both (every_below f n) (f n) (decides_every n (λ k h. each k (omega arith))) (each n (omega arith)))

-- what goes by middles below k is decided, if each step is
decides_via : (R : ℕ → ℕ → Type 0) (f : ℕ → ℕ → Bool) (n : ℕ) → ((u v : ℕ) → u < n → v < n → Decides (f u v) (R u v))
    → (k u v : ℕ) → k ≤ n → u < n → v < n → Decides (via_test f k u v) (Via R k u v)
decides_via R f n each zero u v l h i = decides_either (eqb u v) (f u v) (decides_same u v) (each u v h i)
decides_via R f n each (suc k) u v l h i =
    let lower : k ≤ n = omega arith in
    let middle : k < n = omega arith in
    decides_either (via_test f k u v) (via_test f k u k && via_test f k k v) (decides_via R f n each k u v lower h i)
    (decides_both (via_test f k u k) (via_test f k k v) (decides_via R f n each k u k lower h middle) (decides_via R f n each k k v lower middle i))

module _ (m : Meaning) (l : Limits m) where
  mutual
    -- the test of a formula decides whether it is true
    pub holds_decides : (x : Formula) (u : ℕ) → u < m.modes → Decides (holds m x u) (TrueAt m x u)
    holds_decides never u h = (λ e. false≢true e, λ t. absurd t)
    holds_decides (flag p) u h = (λ e. e, λ e. e)
    holds_decides (negation x) u h = decides_not (holds m x u) (holds_decides x u h)
    holds_decides (both x y) u h = decides_both (holds m x u) (holds m y u) (holds_decides x u h) (holds_decides y u h)
    holds_decides (either x y) u h = decides_either (holds m x u) (holds m y u) (holds_decides x u h) (holds_decides y u h)
    holds_decides (implies x y) u h = decides_if (holds m x u) (holds m y u) (holds_decides x u h) (holds_decides y u h)
    holds_decides (box r x) u h =
        decides_like (holds m (box r x) u) (box_of_modes m l r u h x) (λ all v i. all v)
        (decides_every (λ v. Leads m r u v → TrueAt m x v) (λ v. not (goes m r u v) || holds m x v) m.modes
        (λ v i. decides_if (goes m r u v) (holds m x v) (goes_decides r u v h i) (holds_decides x v i)))
    holds_decides (diamond r x) u h =
        decides_like (holds m (diamond r x) u) (λ s. (s.0, s.2.0, s.2.1)) (diamond_at_mode m l r u h x)
        (decides_some (λ v. Leads m r u v × TrueAt m x v) (λ v. goes m r u v && holds m x v) m.modes
        (λ v i. decides_both (goes m r u v) (holds m x v) (goes_decides r u v h i) (holds_decides x v i)))

    -- the test of a program decides whether it leads
    pub goes_decides : (r : Program) (u v : ℕ) → u < m.modes → v < m.modes → Decides (goes m r u v) (Leads m r u v)
    goes_decides (command a) u v h i = (λ e. e, λ e. e)
    goes_decides (sequence r s) u v h i =
        decides_like (goes m (sequence r s) u v) (λ j. (j.0, j.2.0, j.2.1)) (sequence_by_mode m l r u h s v)
        (decides_some (λ w. Leads m r u w × Leads m s w v) (λ w. goes m r u w && goes m s w v) m.modes
        (λ w b. decides_both (goes m r u w) (goes m s w v) (goes_decides r u w h b) (goes_decides s w v b i)))
    goes_decides (choice r s) u v h i = decides_either (goes m r u v) (goes m s u v) (goes_decides r u v h i) (goes_decides s u v h i)
    goes_decides (repetition r) u v h i =
        decides_like (goes m (repetition r) u v) (via_steps (Leads m r) m.modes u v) (repetition_via m l r u h v)
        (decides_via (Leads m r) (goes m r) m.modes (goes_decides r) m.modes u v (omega arith) h i)
    goes_decides (converse r) u v h i = goes_decides r v u i h
    goes_decides (test x) u v h i = decides_both (eqb u v) (holds m x u) (decides_same u v) (holds_decides x u h)

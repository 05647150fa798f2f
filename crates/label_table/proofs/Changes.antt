-- One set of a row's block gains modes, and a block is filled set by set.
use Rattle.std.proofs.Common.{◌≡◌, ℕ, ◌+◌, ◌*◌, ◌/◌, ◌%◌, ◌<◌, ◌≤◌, false, ◌&&◌, ◌||◌, eqb, ◌⊎◌, List, length, get_or, sym, refl, ◌∙◌, subst, inl, inr, ⊎_elim, arith}
use Rattle.std.proofs.lemmas.Bool.{cases_eq, cases_lt, false≢true, or_cases, or_left, or_right, and_parts, and_from, eqb-true, eq-eqb}
use Rattle.sets.specs.Sets.{with_member, Joined}
use Rattle.sets.proofs.Bits.{bit_same_byte, bit_other, bit_with_bit, get_or_with_bit}
use Rattle.label_table.specs.Layout.{pair_bit}
use Rattle.label_table.specs.Entries.{In}
use Rattle.label_table.specs.Changes.{Only, Gained, Filled}

-- nothing has changed, and then something more has
pub only_none : (q : ℕ) (t : List ℕ) → Only q t t
only_none q t = record { below = λ i h. refl; above = λ i h. refl }

pub only_more : (q : ℕ) (a b c : List ℕ) → Only q a b → Only q b c → Only q a c
only_more q a b c x y = record {
  below = λ i h. y.below i h ∙ x.below i h;
  above = λ i h. y.above i h ∙ x.above i h;
}

-- the bits of another row stay
pub only_bit : (q r u v : ℕ) (old new : List ℕ) → (r ≡ q → ⊥) → u < 64 → v < 64 → Only q old new → pair_bit new r u v ≡ pair_bit old r u v
only_bit q r u v old new other hu hv o =
    bit_same_byte new old (512 * r + 8 * u + v / 8) (v % 8)
    (⊎_elim (λ low. o.below _ low) (λ high. o.above _ (omega arith)) (cases_lt (512 * r + 8 * u + v / 8) (512 * q)))

-- no bit is set and not set
pub clear_not_in : (q u v : ℕ) (t : List ℕ) → pair_bit t q u v ≡ false → In t q u v → ⊥
clear_not_in q u v t e i = false≢true (sym e ∙ i)

-- a set outside of which no byte has changed
only_set : (q u : ℕ) (old new : List ℕ) → u < 64 → ((i : ℕ) → i < 512 * q + 8 * u → get_or new i 0 ≡ get_or old i 0)
    → ((i : ℕ) → 512 * q + 8 * u + 8 ≤ i → get_or new i 0 ≡ get_or old i 0) → Only q old new
only_set q u old new hu low high = record { below = λ i h. low i (omega arith); above = λ i h. high i (omega arith) }

other_set : (q u x v : ℕ) (old new : List ℕ) → x < 64 → v < 64 → (x ≡ u → ⊥) → ((i : ℕ) → i < 512 * q + 8 * u → get_or new i 0 ≡ get_or old i 0)
    → ((i : ℕ) → 512 * q + 8 * u + 8 ≤ i → get_or new i 0 ≡ get_or old i 0) → pair_bit new q x v ≡ pair_bit old q x v
other_set q u x v old new hx hv other low high =
    bit_same_byte new old (512 * q + 8 * x + v / 8) (v % 8)
    (⊎_elim (λ lt. low _ lt) (λ ge. high _ (omega arith)) (cases_lt (512 * q + 8 * x + v / 8) (512 * q + 8 * u)))

-- a mode that is put into a set
pub gained_one : (q u v : ℕ) (t : List ℕ) → u < 64 → v < 64 → 512 * q + 8 * u + 8 ≤ length t → Gained q u (λ x. x ≡ v) t (with_member t (512 * q + 8 * u) v)
gained_one q u v t hu hv long = record {
  sound = λ x hx i.
      ⊎_elim inl
      (λ e.
      let (p, r) = and_parts (eqb (512 * q + 8 * u + v / 8) (512 * q + 8 * u + x / 8)) (eqb (v % 8) (x % 8)) e in
      let byte = eqb-true (512 * q + 8 * u + v / 8) (512 * q + 8 * u + x / 8) p in
      let place = eqb-true (v % 8) (x % 8) r in
      inr (omega arith))
      (or_cases (pair_bit t q u x) _ (sym (law x) ∙ i));
  kept = λ x hx i. law x ∙ or_left (pair_bit t q u x) _ i;
  full = λ x hx e.
      law x
      ∙ or_right (pair_bit t q u x) _
      (and_from (eqb (512 * q + 8 * u + v / 8) (512 * q + 8 * u + x / 8)) (eqb (v % 8) (x % 8)) (eq-eqb _ _ (omega arith)) (eq-eqb _ _ (omega arith)));
  others = λ x w hx hw other.
      bit_other t (512 * q + 8 * u + v / 8) (v % 8) (512 * q + 8 * x + w / 8) (w % 8) (λ e. other (omega arith));
  only = record {
    below = λ i h. get_or_with_bit t (512 * q + 8 * u + v / 8) (v % 8) i (λ e. omega arith);
    above = λ i h. get_or_with_bit t (512 * q + 8 * u + v / 8) (v % 8) i (λ e. omega arith);
  };
}
  where
    law : (x : ℕ) → pair_bit (with_member t (512 * q + 8 * u) v) q u x ≡ (pair_bit t q u x || (eqb (512 * q + 8 * u + v / 8) (512 * q + 8 * u + x / 8) && eqb (v % 8) (x % 8)))
    law x = bit_with_bit t (512 * q + 8 * u + v / 8) (v % 8) (512 * q + 8 * u + x / 8) (x % 8) (omega arith)

-- a set that is joined to a set
pub gained_set : (q u r w : ℕ) (old new : List ℕ) → u < 64 → Joined (512 * q + 8 * u) (512 * r + 8 * w) old new → Gained q u (In old r w) old new
gained_set q u r w old new hu j = record {
  sound = λ v h i. or_cases (pair_bit old q u v) (pair_bit old r w v) (sym (j.gained v h) ∙ i);
  kept = λ v h i. j.gained v h ∙ or_left (pair_bit old q u v) (pair_bit old r w v) i;
  full = λ v h i. j.gained v h ∙ or_right (pair_bit old q u v) (pair_bit old r w v) i;
  others = λ x v hx hv other. other_set q u x v old new hx hv other j.below j.above;
  only = only_set q u old new hu j.below j.above;
}

-- what is gained, said in another way
pub gained_like : (q u : ℕ) (P Q : ℕ → Type 0) (old new : List ℕ) → ((v : ℕ) → v < 64 → P v → Q v) → ((v : ℕ) → v < 64 → Q v → P v) → Gained q u P old new → Gained q u Q old new
gained_like q u P Q old new to from g = record {
  sound = λ v h i. ⊎_elim inl (λ p. inr (to v h p)) (g.sound v h i);
  kept = g.kept;
  full = λ v h p. g.full v h (from v h p);
  others = g.others;
  only = g.only;
}

-- modes are gained, and then more of them
pub gained_both : (q u : ℕ) (P Q : ℕ → Type 0) (a b c : List ℕ) → Gained q u P a b → Gained q u Q b c → Gained q u (λ v. P v ⊎ Q v) a c
gained_both q u P Q a b c x y = record {
  sound = λ v h i. ⊎_elim (λ old. ⊎_elim inl (λ p. inr (inl p)) (x.sound v h old)) (λ p. inr (inr p)) (y.sound v h i);
  kept = λ v h i. y.kept v h (x.kept v h i);
  full = λ v h p. ⊎_elim (λ first. y.kept v h (x.full v h first)) (λ second. y.full v h second) p;
  others = λ z v hz hv other. y.others z v hz hv other ∙ x.others z v hz hv other;
  only = only_more q a b c x.only y.only;
}

-- what some number below k gives
abbrev pub Upto : (ℕ → ℕ → Type 0) → ℕ → ℕ → Type 0
Upto D k v = (w : ℕ) × (w < k) × D w v

upto_here : (D : ℕ → ℕ → Type 0) (k v : ℕ) → D k v → Upto D (k + 1) v
upto_here D k v d = (k, omega arith, d)

upto_more : (D : ℕ → ℕ → Type 0) (k v : ℕ) → Upto D k v → Upto D (k + 1) v
upto_more D k v (w, h, d) = (w, omega arith, d)

upto_cases : (D : ℕ → ℕ → Type 0) (k v : ℕ) → Upto D (k + 1) v → Upto D k v ⊎ D k v
upto_cases D k v (w, h, d) =
    ⊎_elim (λ e. inr (subst (λ (x : ℕ). D x v) e d)) (λ other. inl (w, omega arith, d)) (cases_eq w k)

module _ (q u : ℕ) (D : ℕ → ℕ → Type 0) where
  -- a loop that gains the modes of each number goes on with those of k
  pub upto_gained : (k : ℕ) (Q : ℕ → Type 0) (old t new : List ℕ) → ((v : ℕ) → v < 64 → Q v → D k v) → ((v : ℕ) → v < 64 → D k v → Q v)
      → Gained q u (Upto D k) old t → Gained q u Q t new → Gained q u (Upto D (k + 1)) old new
  upto_gained k Q old t new to from so_far g =
      gained_like q u (λ v. Upto D k v ⊎ Q v) (Upto D (k + 1)) old new
      (λ v h p. ⊎_elim (upto_more D k v) (λ here. upto_here D k v (to v h here)) p)
      (λ v h p. ⊎_elim inl (λ d. inr (from v h d)) (upto_cases D k v p))
      (gained_both q u (Upto D k) Q old t new so_far g)

  -- or k has none
  pub upto_passed : (k : ℕ) (old t : List ℕ) → ((v : ℕ) → v < 64 → D k v → ⊥) → Gained q u (Upto D k) old t → Gained q u (Upto D (k + 1)) old t
  upto_passed k old t none so_far =
      gained_like q u (Upto D k) (Upto D (k + 1)) old t
      (λ v h p. upto_more D k v p)
      (λ v h p. ⊎_elim (λ low. low) (λ d. absurd (none v h d)) (upto_cases D k v p))
      so_far

module _ (q u : ℕ) (S : ℕ → Type 0) where
  -- a loop that gains the numbers that pass a test goes on with k, where k passes and nothing between the start and k does
  pub below_found : (start k : ℕ) (old t new : List ℕ) → start ≤ k → ((w : ℕ) → start ≤ w → w < k → S w → ⊥) → S k
      → Gained q u (λ v. (v < start) × S v) old t → Gained q u (λ v. v ≡ k) t new → Gained q u (λ v. (v < k + 1) × S v) old new
  below_found start k old t new low none here so_far g =
      gained_like q u (λ v. ((v < start) × S v) ⊎ (v ≡ k)) (λ v. (v < k + 1) × S v) old new
      (λ v h p. ⊎_elim (λ before. (omega (arith, before.0), before.1)) (λ e. (omega arith, subst S (sym e) here)) p)
      (λ v h p.
      ⊎_elim
      (λ before. inl (before, p.1))
      (λ high. ⊎_elim inr (λ other. absurd (none v high (omega (arith, p.0)) p.1)) (cases_eq v k))
      (cases_lt v start))
      (gained_both q u (λ v. (v < start) × S v) (λ v. v ≡ k) old t new so_far g)

  -- or k does not pass
  pub below_passed : (k : ℕ) (old t : List ℕ) → (S k → ⊥) → Gained q u (λ v. (v < k) × S v) old t → Gained q u (λ v. (v < k + 1) × S v) old t
  below_passed k old t none so_far =
      gained_like q u (λ v. (v < k) × S v) (λ v. (v < k + 1) × S v) old t
      (λ v h p. (omega (arith, p.0), p.1))
      (λ v h p. ⊎_elim (λ e. absurd (none (subst S e p.1))) (λ other. (omega (arith, p.0), p.1)) (cases_eq v k))
      so_far

-- a block is filled for one mode more
pub filled_more : (q k : ℕ) (P : ℕ → ℕ → Type 0) (old t new : List ℕ) → k < 64 → Filled q (λ u v. (u < k) × P u v) old t → Gained q k (P k) t new → Filled q (λ u v. (u < k + 1) × P u v) old new
filled_more q k P old t new hk f g = record {
  sound = λ u v hu hv i.
      ⊎_elim
      (λ e.
      subst (λ (x : ℕ). In new q x v → (x < k + 1) × P x v) (sym e)
      (λ here. ⊎_elim (λ before. let l = (f.sound k v hk hv before).0 in absurd (omega arith)) (λ p. (omega arith, p)) (g.sound v hv here)) i)
      (λ other. let before = f.sound u v hu hv (sym (g.others u v hu hv other) ∙ i) in (omega (arith, before.0), before.1))
      (cases_eq u k);
  full = λ u v hu hv p.
      ⊎_elim
      (λ e. subst (λ (x : ℕ). P x v → In new q x v) (sym e) (λ here. g.full v hv here) p.1)
      (λ other. g.others u v hu hv other ∙ f.full u v hu hv (omega (arith, p.0), p.1))
      (cases_eq u k);
  only = only_more q old t new f.only g.only;
}

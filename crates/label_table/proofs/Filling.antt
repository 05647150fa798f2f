-- The blocks of formulas, of programs and of repetitions hold what their rows say.
use Rattle.std.proofs.Common.{◌≡◌, ℕ, zero, suc, ◌<◌, ◌≤◌, ◌⊎◌, List, sym, ◌∙◌, subst, inl, inr, ⊎_elim, arith}
use Rattle.std.proofs.lemmas.Bool.{cases_lt}
use Rattle.graph.specs.Meaning.{Meaning}
use Rattle.logic.specs.Truth.{Walk, Steps}
use Rattle.logic.proofs.Walks.{walk_mapped}
use Rattle.logic.specs.declared.row.Row.TheVariants.{Repetition}
use Rattle.label_table.specs.Entries.{Step, OneStep, Entry}
use Rattle.label_table.specs.Changes.{Filled, Closed}
use Rattle.label_table.proofs.Changes.{only_more}

-- steps that may stay where they are lead no further
staying : (R S : ℕ → ℕ → Type 0) → ((x y : ℕ) → S x y → R x y ⊎ (y ≡ x)) → (k u v : ℕ) → Walk S k u v → Steps R u v
staying R S each zero u v e = (0, e)
staying R S each (suc k) u v (w, step, rest) =
    let (n, walk) = staying R S each k w v rest in
    ⊎_elim (λ r. (suc n, (w, r, walk))) (λ e. (n, subst (λ (x : ℕ). Walk R n x v) e walk)) (each u w step)

module _ (m : Meaning) (q r : ℕ) (old t : List ℕ) (few : m.modes ≤ 64) (f : Filled q (λ u v. (u < m.modes) × OneStep m old (Repetition r) u v) old t) where
  -- closed, it holds the walks of its part
  pub filled_repetition : (new : List ℕ) → Closed m.modes q t new → Filled q (Entry m old (Repetition r)) old new
  filled_repetition new c = record {
    sound = λ u v hu hv i.
        ⊎_elim
        (λ low.
        let (k, walk) = c.sound u v low hv i in
        inr (low, staying (Step m.modes old r) (Step m.modes t q) apart k u v walk))
        (λ high. let s = (f.sound u v hu hv (sym (c.others u v high hu hv) ∙ i)).0 in absurd (omega arith))
        (cases_lt u m.modes);
    full = λ u v hu hv p.
        ⊎_elim (λ x. absurd x.2)
        (λ s.
        let (k, walk) = s.1 in
        c.full u v s.0 hv (k, walk_mapped (Step m.modes old r) (Step m.modes t q) (λ x. x < m.modes) together k u v s.0 walk)) p;
    only = only_more q old t new f.only c.only;
  }
    where
      apart : (x y : ℕ) → Step m.modes t q x y → Step m.modes old r x y ⊎ (y ≡ x)
      apart x y (hx, hy, i) = ⊎_elim (λ step. inl (hx, hy, step)) inr (f.sound x y (omega arith) (omega arith) i).1

      together : (x y : ℕ) → x < m.modes → Step m.modes old r x y → (y < m.modes) × Step m.modes t q x y
      together x y h (hx, hy, i) = (hy, (hx, hy, f.full x y (omega arith) (omega arith) (hx, inl i)))

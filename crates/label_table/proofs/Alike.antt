-- There is one label table for a graph and the rows of a sheet: two of them have the same bytes.
use Rattle.std.proofs.Common.{◌≡◌, ℕ, ◌+◌, ◌*◌, ◌/◌, ◌%◌, ◌<◌, ◌≤◌, true, false, ◌⊎◌, List, length, get_or, take, sym, ap, ◌∙◌, subst, ⊎_elim, arith, length-take}
use Rattle.std.proofs.lemmas.List.{ext_get_or, get_or-take}
use Rattle.std.proofs.lemmas.Bool.{cases_lt, cases_Bool, true≢false}
use Rattle.std.proofs.lemmas.Bool.Decides.{same_from_decides}
use Rattle.sets.specs.Sets.{bit}
use Rattle.sets.proofs.Bits.{same_digits, same_digit}
use Rattle.graph.specs.Meaning.{Meaning}
use Rattle.logic.specs.Rows.{is_formula}
use Rattle.logic.specs.declared.row.Row.{Row}
use Rattle.logic.specs.declared.row.Row.TheVariants.{Never}
use Rattle.label_table.specs.Layout.{table_bytes, mode_bit, pair_bit}
use Rattle.label_table.specs.Labels.{ModeFact, PairFact, LabelTable}

module _ (m : Meaning) (few : m.modes ≤ 64) (rows : List Row) (a b : List ℕ) (x : LabelTable m rows a) (y : LabelTable m rows b) where
  -- a bit of no fact is set in neither
  no_fact : (i k : ℕ) → i < table_bytes → k < 8 → (ModeFact m rows i k ⊎ PairFact m rows i k → ⊥) → bit a i k ≡ bit b i k
  no_fact i k hi hk none = x.others i k hi hk none ∙ sym (y.others i k hi hk none)

  -- a bit of a formula's block is a mode's bit or the bit of no fact
  in_formula : (i k : ℕ) → i < table_bytes → k < 8 → i / 512 < length rows → is_formula (get_or rows (i / 512) Never) ≡ true → bit a i k ≡ bit b i k
  in_formula i k hi hk h sort =
      ⊎_elim
      (λ low.
      let byte : 512 * (i / 512) + (8 * (i % 512) + k) / 8 ≡ i = omega arith in
      let place : (8 * (i % 512) + k) % 8 ≡ k = omega arith in
      let same = same_from_decides (mode_bit a (i / 512) (8 * (i % 512) + k)) (mode_bit b (i / 512) (8 * (i % 512) + k))
      (x.modes (i / 512) (8 * (i % 512) + k) (h, sort) low) (y.modes (i / 512) (8 * (i % 512) + k) (h, sort) low) in
      subst (λ (j : ℕ). bit a j k ≡ bit b j k) byte
      (subst (λ (n : ℕ). bit a (512 * (i / 512) + (8 * (i % 512) + k) / 8) n ≡ bit b (512 * (i / 512) + (8 * (i % 512) + k) / 8) n) place same))
      (λ high.
      no_fact i k hi hk
      (λ f.
      ⊎_elim
      (λ (r, u, at, hu, ei, ek). omega arith)
      (λ (r, u, v, at, hu, hv, ei, ek).
      let e : r ≡ i / 512 = omega arith in
      true≢false (sym sort ∙ ap (λ (j : ℕ). is_formula (get_or rows j Never)) (sym e) ∙ at.1))
      f))
      (cases_lt (8 * (i % 512) + k) m.modes)

  -- a bit of a program's block is a pair's bit or the bit of no fact
  in_program : (i k : ℕ) → i < table_bytes → k < 8 → i / 512 < length rows → is_formula (get_or rows (i / 512) Never) ≡ false → bit a i k ≡ bit b i k
  in_program i k hi hk h sort =
      let u : ℕ = i % 512 / 8 in
      let v : ℕ = 8 * (i % 8) + k in
      ⊎_elim
      (λ hu.
      ⊎_elim
      (λ hv.
      let byte : 512 * (i / 512) + 8 * (i % 512 / 8) + (8 * (i % 8) + k) / 8 ≡ i = omega arith in
      let place : (8 * (i % 8) + k) % 8 ≡ k = omega arith in
      let same = same_from_decides (pair_bit a (i / 512) u v) (pair_bit b (i / 512) u v)
      (x.pairs (i / 512) u v (h, sort) hu hv) (y.pairs (i / 512) u v (h, sort) hu hv) in
      subst (λ (j : ℕ). bit a j k ≡ bit b j k) byte
      (subst (λ (n : ℕ). bit a (512 * (i / 512) + 8 * (i % 512 / 8) + (8 * (i % 8) + k) / 8) n ≡ bit b (512 * (i / 512) + 8 * (i % 512 / 8) + (8 * (i % 8) + k) / 8) n) place same))
      (λ high. no_fact i k hi hk (λ f. refuted (λ p q. let z = q in omega arith) f))
      (cases_lt v m.modes))
      (λ high. no_fact i k hi hk (λ f. refuted (λ p q. let z = p in omega arith) f))
      (cases_lt u m.modes)
    where
      refuted : (i % 512 / 8 < m.modes → 8 * (i % 8) + k < m.modes → ⊥) → ModeFact m rows i k ⊎ PairFact m rows i k → ⊥
      refuted none f =
          ⊎_elim
          (λ (r, u, at, hu, ei, ek).
          let e : r ≡ i / 512 = omega arith in
          true≢false (sym at.1 ∙ ap (λ (j : ℕ). is_formula (get_or rows j Never)) e ∙ sort))
          (λ (r, u, v, at, hu, hv, ei, ek). none (omega arith) (omega arith))
          f

  -- a bit behind the last row is the bit of no fact
  behind : (i k : ℕ) → i < table_bytes → k < 8 → length rows ≤ i / 512 → bit a i k ≡ bit b i k
  behind i k hi hk high =
      no_fact i k hi hk
      (λ f. ⊎_elim (λ (r, u, at, hu, ei, ek). let l = at.0 in omega arith) (λ (r, u, v, at, hu, hv, ei, ek). let l = at.0 in omega arith) f)

  -- every bit is the same in both
  pub same_bit : (i k : ℕ) → i < table_bytes → k < 8 → bit a i k ≡ bit b i k
  same_bit i k hi hk =
      ⊎_elim
      (λ h. ⊎_elim (in_formula i k hi hk h) (in_program i k hi hk h) (cases_Bool (is_formula (get_or rows (i / 512) Never))))
      (behind i k hi hk)
      (cases_lt (i / 512) (length rows))

  same_byte : (i : ℕ) → i < table_bytes → get_or a i 0 ≡ get_or b i 0
  same_byte i h =
      same_digits 8 (get_or a i 0) (get_or b i 0) (x.are_bytes i h) (y.are_bytes i h) (λ k hk. same_digit a b i k (same_bit i k h hk))

  -- so both have the same bytes
  pub one_table : take table_bytes a ≡ take table_bytes b
  one_table =
      let la = length-take table_bytes a in
      let lb = length-take table_bytes b in
      let wa = x.whole in
      let wb = y.whole in
      ext_get_or 0 (take table_bytes a) (take table_bytes b) (omega arith)
      (λ i h.
      let low : i < table_bytes = omega arith in
      get_or-take table_bytes a i 0 low ∙ same_byte i low ∙ sym (get_or-take table_bytes b i 0 low))

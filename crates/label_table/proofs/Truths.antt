-- A table whose rows all hold what they say is the label table: by recursion over the rows, each bit is the truth.
use Rattle.std.proofs.Common.{◌≡◌, ℕ, zero, suc, ◌+◌, ◌*◌, ◌/◌, ◌%◌, ◌<◌, ◌≤◌, Bool, true, false, ◌⊎◌, List, length, get_or, Decides, sym, refl, ap, ◌∙◌, subst, inl, inr, ⊎_elim, arith}
use Rattle.std.proofs.lemmas.Bool.{cases_lt}
use Rattle.sets.specs.Sets.{bit}
use Rattle.graph.specs.Meaning.{Meaning, Limits}
use Rattle.logic.specs.Trees.{Formula, Program, never, flag, negation, both, either, implies, box, diamond, command, sequence, choice, repetition, converse, test}
use Rattle.logic.specs.Truth.{TrueAt, Leads}
use Rattle.logic.specs.Rows.{FormulaRow, ProgramRow, is_formula, PartsBefore, Orderly}
use Rattle.logic.proofs.Rows.{formula_same, program_same}
use Rattle.logic.proofs.Walks.{walk_mapped}
use Rattle.logic.proofs.Within.{leads_to_mode}
use Rattle.logic.specs.declared.row.Row.{Row}
use Rattle.logic.specs.declared.row.Row.TheVariants.{Never, Flag, Not, Both, Either, Implies, Box, Diamond, Command, Sequence, Choice, Repetition, Converse, Test}
use Rattle.label_table.specs.Layout.{table_bytes, mode_bit, pair_bit}
use Rattle.label_table.specs.Labels.{FormulaAt, ProgramAt, RowTrue, RowLeads, ModeFact, PairFact, LabelTable}
use Rattle.label_table.specs.Entries.{In, Step, FormulaSays, ProgramSays}
use Rattle.label_table.specs.Progress.{Done, SoFar}

module _ (m : Meaning) (l : Limits m) (rows : List Row) (bs : List ℕ) where
  -- row q holds the truth of the formula
  record HoldsFormula (q : ℕ) (x : Formula) : Type 0 where
    stands : FormulaRow rows q x
    sound : (u v : ℕ) → u < 64 → v < 64 → In bs q u v → (u ≡ 0) × (v < m.modes) × TrueAt m x v
    full : (v : ℕ) → v < m.modes → TrueAt m x v → In bs q 0 v

  -- row q holds the truth of the program
  record HoldsProgram (q : ℕ) (p : Program) : Type 0 where
    stands : ProgramRow rows q p
    sound : (u v : ℕ) → u < 64 → v < 64 → In bs q u v → (u < m.modes) × (v < m.modes) × Leads m p u v
    full : (u v : ℕ) → u < m.modes → Leads m p u v → In bs q u v

  -- row q holds the truth of a tree of its sort
  abbrev Holds : ℕ → Bool → Type 0
  Holds q true = (x : Formula) × HoldsFormula q x
  Holds q false = (p : Program) × HoldsProgram q p

  few : m.modes ≤ 64
  few = l.modes_high

  module _ (q : ℕ) (row : Row) (in_List : q < length rows) (is : get_or rows q Never ≡ row) (done : Done m bs q row) where
    formula_holds : (x : Formula) → FormulaRow rows q x → ((u v : ℕ) → ProgramSays m bs row u v → ⊥)
        → ((v : ℕ) → v < m.modes → FormulaSays m bs row v → TrueAt m x v) → ((v : ℕ) → v < m.modes → TrueAt m x v → FormulaSays m bs row v) → HoldsFormula q x
    formula_holds x stands none to from = record {
      stands = stands;
      sound = λ u v hu hv i.
          ⊎_elim (λ f. (f.0, f.1, to v f.1 f.2)) (λ s. absurd (none u v s.1)) ((done u v hu hv).0 i);
      full = λ v h t. (done 0 v (omega arith) (omega (arith, few))).1 (inl (refl, h, from v h t));
    }

    program_holds : (p : Program) → ProgramRow rows q p → ((v : ℕ) → FormulaSays m bs row v → ⊥)
        → ((u v : ℕ) → u < m.modes → v < 64 → ProgramSays m bs row u v → (v < m.modes) × Leads m p u v)
        → ((u v : ℕ) → u < m.modes → v < m.modes → Leads m p u v → ProgramSays m bs row u v) → HoldsProgram q p
    program_holds p stands none to from = record {
      stands = stands;
      sound = λ u v hu hv i.
          ⊎_elim (λ f. absurd (none v f.2)) (λ s. let t = to u v s.0 hv s.1 in (s.0, t.0, t.1)) ((done u v hu hv).0 i);
      full = λ u v h j.
          let low = leads_to_mode m l p u v h j in
          (done u v (omega (arith, few)) (omega (arith, few))).1 (inr (h, from u v h low j));
    }

  -- one row, from the rows of its parts
  row_holds : (q : ℕ) (row : Row) → q < length rows → get_or rows q Never ≡ row → Done m bs q row → PartsBefore rows q row
      → ((j : ℕ) (b : Bool) → j < q → is_formula (get_or rows j Never) ≡ b → Holds j b) → Holds q (is_formula row)
  row_holds q Never h is done p at = (never, formula_holds q Never h is done never (h, is) (λ u v s. s) (λ v hv s. s) (λ v hv t. t))
  row_holds q (Flag f) h is done p at = (flag f, formula_holds q (Flag f) h is done (flag f) (h, is) (λ u v s. s) (λ v hv s. s) (λ v hv t. t))
  row_holds q (Not j) h is done p at =
      let (x, a) = at j true p.0 p.1 in (
        negation x,
        formula_holds q (Not j) h is done (negation x) (j, (h, is), a.stands) (λ u v s. s)
            (λ v hv s t. s (a.full v hv t))
            (λ v hv t i. t (a.sound 0 v (omega arith) (omega (arith, few)) i).2),
      )
  row_holds q (Both j k) h is done (p, r) at =
      let (x, a) = at j true p.0 p.1 in
      let (y, b) = at k true r.0 r.1 in (
        both x y,
        formula_holds q (Both j k) h is done (both x y) (j, k, (h, is), a.stands, b.stands) (λ u v s. s)
            (λ v hv s. ((a.sound 0 v (omega arith) (omega (arith, few)) s.0).2, (b.sound 0 v (omega arith) (omega (arith, few)) s.1).2))
            (λ v hv t. (a.full v hv t.0, b.full v hv t.1)),
      )
  row_holds q (Either j k) h is done (p, r) at =
      let (x, a) = at j true p.0 p.1 in
      let (y, b) = at k true r.0 r.1 in (
        either x y,
        formula_holds q (Either j k) h is done (either x y) (j, k, (h, is), a.stands, b.stands) (λ u v s. s)
            (λ v hv s. ⊎_elim (λ i. inl (a.sound 0 v (omega arith) (omega (arith, few)) i).2) (λ i. inr (b.sound 0 v (omega arith) (omega (arith, few)) i).2) s)
            (λ v hv t. ⊎_elim (λ i. inl (a.full v hv i)) (λ i. inr (b.full v hv i)) t),
      )
  row_holds q (Implies j k) h is done (p, r) at =
      let (x, a) = at j true p.0 p.1 in
      let (y, b) = at k true r.0 r.1 in (
        implies x y,
        formula_holds q (Implies j k) h is done (implies x y) (j, k, (h, is), a.stands, b.stands) (λ u v s. s)
            (λ v hv s t. (b.sound 0 v (omega arith) (omega (arith, few)) (s (a.full v hv t))).2)
            (λ v hv t i. b.full v hv (t (a.sound 0 v (omega arith) (omega (arith, few)) i).2)),
      )
  row_holds q (Box j k) h is done (p, r) at =
      let (x, a) = at j false p.0 p.1 in
      let (y, b) = at k true r.0 r.1 in (
        box x y,
        formula_holds q (Box j k) h is done (box x y) (j, k, (h, is), a.stands, b.stands) (λ u v s. s)
            (λ u hu s v t.
            let low = leads_to_mode m l x u v hu t in
            (b.sound 0 v (omega arith) (omega (arith, few)) (s v (omega (arith, few)) (a.full u v hu t))).2)
            (λ u hu t v hv i. let e = a.sound u v (omega (arith, few)) hv i in b.full v e.1 (t v e.2)),
      )
  row_holds q (Diamond j k) h is done (p, r) at =
      let (x, a) = at j false p.0 p.1 in
      let (y, b) = at k true r.0 r.1 in (
        diamond x y,
        formula_holds q (Diamond j k) h is done (diamond x y) (j, k, (h, is), a.stands, b.stands) (λ u v s. s)
            (λ u hu s. (s.0, (a.sound u s.0 (omega (arith, few)) s.1 s.2).2, (b.sound 0 s.0 (omega arith) s.1 s.3).2))
            (λ u hu t.
            let low = leads_to_mode m l x u t.0 hu t.1 in
            (t.0, omega (arith, few), a.full u t.0 hu t.1, b.full t.0 low t.2)),
      )
  row_holds q (Command c) h is done p at =
      (command c, program_holds q (Command c) h is done (command c) (h, is) (λ v s. s) (λ u v hu hv s. ((l.joins_in c u v s).2, s)) (λ u v hu hv t. t))
  row_holds q (Sequence j k) h is done (p, r) at =
      let (x, a) = at j false p.0 p.1 in
      let (y, b) = at k false r.0 r.1 in (
        sequence x y,
        program_holds q (Sequence j k) h is done (sequence x y) (j, k, (h, is), a.stands, b.stands) (λ v s. s)
            (λ u v hu hv s.
            let (w, hw, (i, o)) = s in
            let e = b.sound w v (omega (arith, few)) hv o in
            (e.1, (w, (a.sound u w (omega (arith, few)) (omega (arith, few)) i).2, e.2)))
            (λ u v hu hv t.
            let (w, i, o) = t in
            let low = leads_to_mode m l x u w hu i in
            (w, low, (a.full u w hu i, b.full w v low o))),
      )
  row_holds q (Choice j k) h is done (p, r) at =
      let (x, a) = at j false p.0 p.1 in
      let (y, b) = at k false r.0 r.1 in (
        choice x y,
        program_holds q (Choice j k) h is done (choice x y) (j, k, (h, is), a.stands, b.stands) (λ v s. s)
            (λ u v hu hv s.
            ⊎_elim
            (λ i. let e = a.sound u v (omega (arith, few)) hv i in (e.1, inl e.2))
            (λ i. let e = b.sound u v (omega (arith, few)) hv i in (e.1, inr e.2))
            s)
            (λ u v hu hv t. ⊎_elim (λ i. inl (a.full u v hu i)) (λ i. inr (b.full u v hu i)) t),
      )
  row_holds q (Repetition j) h is done p at =
      let (x, a) = at j false p.0 p.1 in
      let there : (y z : ℕ) → y < m.modes → Step m.modes bs j y z → (z < m.modes) × Leads m x y z =
      λ y z hy s. (s.1, (a.sound y z (omega (arith, few)) (omega (arith, few, s.1)) s.2).2) in
      let back : (y z : ℕ) → y < m.modes → Leads m x y z → (z < m.modes) × Step m.modes bs j y z =
      λ y z hy t. let low = leads_to_mode m l x y z hy t in (low, (hy, low, a.full y z hy t)) in (
        repetition x,
        program_holds q (Repetition j) h is done (repetition x) (j, (h, is), a.stands) (λ v s. s)
            (λ u v hu hv s.
            let t : Leads m (repetition x) u v = (s.0, walk_mapped (Step m.modes bs j) (Leads m x) (λ y. y < m.modes) there s.0 u v hu s.1) in
            (leads_to_mode m l (repetition x) u v hu t, t))
            (λ u v hu hv t. (t.0, walk_mapped (Leads m x) (Step m.modes bs j) (λ y. y < m.modes) back t.0 u v hu t.1)),
      )
  row_holds q (Converse j) h is done p at =
      let (x, a) = at j false p.0 p.1 in (
        converse x,
        program_holds q (Converse j) h is done (converse x) (j, (h, is), a.stands) (λ v s. s)
            (λ u v hu hv s. (s.0, (a.sound v u hv (omega (arith, few)) s.1).2))
            (λ u v hu hv t. (hv, a.full v u hv t)),
      )
  row_holds q (Test j) h is done p at =
      let (x, a) = at j true p.0 p.1 in (
        test x,
        program_holds q (Test j) h is done (test x) (j, (h, is), a.stands) (λ v s. s)
            (λ u v hu hv s. let e = s.1 in (omega arith, (sym e, (a.sound 0 u (omega arith) (omega (arith, few)) s.0).2)))
            (λ u v hu hv t. (a.full u hu t.1, sym t.0)),
      )

  module _ (orderly : Orderly rows) (done : (q : ℕ) → q < length rows → Done m bs q (get_or rows q Never)) where
    holds_below : (n q : ℕ) (b : Bool) → q < n → q < length rows → is_formula (get_or rows q Never) ≡ b → Holds q b
    holds_below zero q b low h e = absurd (omega arith)
    holds_below (suc n) q b low h e =
        subst (Holds q) e
        (row_holds q (get_or rows q Never) h refl (done q h) (orderly q h) (λ j c lower is. holds_below n j c (omega arith) (omega arith) is))

    -- every row holds the truth of its tree
    row_at : (q : ℕ) (b : Bool) → q < length rows → is_formula (get_or rows q Never) ≡ b → Holds q b
    row_at q b h e = holds_below (length rows) q b h h e

-- the bit of a mode is where a program row has the pair of 0 and that mode
mode_pair : (bs : List ℕ) (r u : ℕ) → mode_bit bs r u ≡ pair_bit bs r 0 u
mode_pair bs r u =
    let e : 512 * r + u / 8 ≡ 512 * r + 8 * 0 + u / 8 = omega arith in ap (λ (i : ℕ). bit bs i (u % 8)) e

-- each bit of the table is the bit of a row, and of two numbers below 64
bit_pair : (bs : List ℕ) (i k : ℕ) → k < 8 → bit bs i k ≡ pair_bit bs (i / 512) (i % 512 / 8) (8 * (i % 8) + k)
bit_pair bs i k h =
    let e : i ≡ 512 * (i / 512) + 8 * (i % 512 / 8) + (8 * (i % 8) + k) / 8 = omega arith in
    let f : k ≡ (8 * (i % 8) + k) % 8 = omega arith in
    ap (λ (j : ℕ). bit bs j k) e ∙ ap (bit bs (512 * (i / 512) + 8 * (i % 512 / 8) + (8 * (i % 8) + k) / 8)) f

-- a bit that cannot be set is not
not_set : (b : Bool) → (b ≡ true → ⊥) → b ≡ false
not_set true n = absurd (n refl)
not_set false n = refl

module _ (m : Meaning) (l : Limits m) (rows : List Row) (bs : List ℕ) (orderly : Orderly rows) (s : SoFar m rows (length rows) bs) where
  holds : (q : ℕ) (b : Bool) → q < length rows → is_formula (get_or rows q Never) ≡ b → Holds m l rows bs q b
  holds q b h e = row_at m l rows bs orderly (λ r low. s.done r low) q b h e

  modes_true : (r u : ℕ) → FormulaAt rows r → u < m.modes → Decides (mode_bit bs r u) (RowTrue m rows r u)
  modes_true r u (h, sort) hu =
      let (x, a) = holds r true h sort in (
        λ e. (x, a.stands, (a.sound 0 u (omega arith) (omega (arith, l.modes_high)) (sym (mode_pair bs r u) ∙ e)).2),
        λ t. mode_pair bs r u ∙ a.full u hu (subst (λ (y : Formula). TrueAt m y u) (formula_same rows r x t.0 a.stands t.1) t.2),
      )

  pairs_lead : (r u v : ℕ) → ProgramAt rows r → u < m.modes → v < m.modes → Decides (pair_bit bs r u v) (RowLeads m rows r u v)
  pairs_lead r u v (h, sort) hu hv =
      let (p, a) = holds r false h sort in (
        λ e. (p, a.stands, (a.sound u v (omega (arith, l.modes_high)) (omega (arith, l.modes_high)) e).2),
        λ t. a.full u v hu (subst (λ (y : Program). Leads m y u v) (program_same rows r p t.0 a.stands t.1) t.2),
      )

  -- a bit that is set is the bit of a fact
  set_is_fact : (i k r u v : ℕ) → k < 8 → r ≡ i / 512 → u ≡ i % 512 / 8 → v ≡ 8 * (i % 8) + k → r < length rows → (b : Bool) → is_formula (get_or rows r Never) ≡ b → In bs r u v → ModeFact m rows i k ⊎ PairFact m rows i k
  set_is_fact i k r u v hk er eu ev h true sort e =
      let (x, a) = holds r true h sort in
      let t = a.sound u v (omega arith) (omega arith) e in
      let none = t.0 in
      inl (r, v, (h, sort), t.1, omega arith, omega arith)
  set_is_fact i k r u v hk er eu ev h false sort e =
      let (p, a) = holds r false h sort in
      let t = a.sound u v (omega arith) (omega arith) e in
      inr (r, u, v, (h, sort), t.0, t.1, omega arith, omega arith)

  others_clear : (i k : ℕ) → i < table_bytes → k < 8 → (ModeFact m rows i k ⊎ PairFact m rows i k → ⊥) → bit bs i k ≡ false
  others_clear i k hi hk none =
      bit_pair bs i k hk
      ∙ ⊎_elim
      (λ low.
      not_set (pair_bit bs (i / 512) (i % 512 / 8) (8 * (i % 8) + k))
      (λ e. none (set_is_fact i k (i / 512) (i % 512 / 8) (8 * (i % 8) + k) hk refl refl refl low (is_formula (get_or rows (i / 512) Never)) refl e)))
      (λ high. s.clear (i / 512) high (omega arith) (i % 512 / 8) (8 * (i % 8) + k) (omega arith) (omega arith))
      (cases_lt (i / 512) (length rows))

  -- all rows are done, so the table is the label table
  pub so_far_all : table_bytes ≤ length bs → ((i : ℕ) → i < table_bytes → get_or bs i 0 < 256) → LabelTable m rows bs
  so_far_all whole bytes = record {
    whole = whole;
    are_bytes = bytes;
    modes = modes_true;
    pairs = pairs_lead;
    others = others_clear;
  }

-- The table grows row by row: rows that are done stay done, since a row is written after the rows of its parts.
use Rattle.std.proofs.Common.{◌≡◌, ℕ, ◌+◌, ◌*◌, ◌/◌, ◌%◌, ◌<◌, ◌≤◌, List, length, get_or, sym, ◌∙◌, subst, inl, inr, ⊎_elim, arith}
use Rattle.std.proofs.lemmas.Bool.{cases_eq}
use Rattle.sets.proofs.Bits.{bit_zero}
use Rattle.graph.specs.Meaning.{Meaning, Limits}
use Rattle.logic.specs.Rows.{PartsBefore, Orderly}
use Rattle.logic.proofs.Walks.{kept_on, walk_mapped}
use Rattle.logic.specs.declared.row.Row.{Row}
use Rattle.logic.specs.declared.row.Row.TheVariants.{Never, Flag, Not, Both, Either, Implies, Box, Diamond, Command, Sequence, Choice, Repetition, Converse, Test}
use Rattle.label_table.specs.Layout.{table_bytes, pair_bit}
use Rattle.label_table.specs.Entries.{In, Step, PartsBelow, FormulaSays, OneStep, ProgramSays, Entry}
use Rattle.label_table.specs.Changes.{Only, TidyBefore, Filled}
use Rattle.label_table.specs.Progress.{Done, SoFar}
use Rattle.label_table.proofs.Changes.{only_bit}

-- the rows before q have the same bits in both tables
abbrev SameBefore : ℕ → List ℕ → List ℕ → Type 0
SameBefore q a b = (j u v : ℕ) → j < q → u < 64 → v < 64 → pair_bit a j u v ≡ pair_bit b j u v

same_back : (q : ℕ) (a b : List ℕ) → SameBefore q a b → SameBefore q b a
same_back q a b same j u v h hu hv = sym (same j u v h hu hv)

module _ (m : Meaning) (few : m.modes ≤ 64) (q : ℕ) (a b : List ℕ) (same : SameBefore q a b) where
  moved : (j u v : ℕ) → j < q → u < 64 → v < 64 → In a j u v → In b j u v
  moved j u v h hu hv i = sym (same j u v h hu hv) ∙ i

  moved_back : (j u v : ℕ) → j < q → u < 64 → v < 64 → In b j u v → In a j u v
  moved_back j u v h hu hv i = same j u v h hu hv ∙ i

  formula_same : (row : Row) (u : ℕ) → PartsBelow q row → u < 64 → FormulaSays m a row u → FormulaSays m b row u
  formula_same Never u p hu s = s
  formula_same (Flag f) u p hu s = s
  formula_same (Not x) u p hu s = λ i. s (moved_back x 0 u p (omega arith) hu i)
  formula_same (Both x y) u (p, r) hu s = (moved x 0 u p (omega arith) hu s.0, moved y 0 u r (omega arith) hu s.1)
  formula_same (Either x y) u (p, r) hu s =
      ⊎_elim (λ i. inl (moved x 0 u p (omega arith) hu i)) (λ i. inr (moved y 0 u r (omega arith) hu i)) s
  formula_same (Implies x y) u (p, r) hu s =
      λ i. moved y 0 u r (omega arith) hu (s (moved_back x 0 u p (omega arith) hu i))
  formula_same (Box r x) u (p, t) hu s =
      λ v hv i. moved x 0 v t (omega arith) hv (s v hv (moved_back r u v p hu hv i))
  formula_same (Diamond r x) u (p, t) hu (v, hv, i, j) =
      (v, hv, moved r u v p hu hv i, moved x 0 v t (omega arith) hv j)
  formula_same (Command c) u p hu s = s
  formula_same (Sequence r t) u p hu s = s
  formula_same (Choice r t) u p hu s = s
  formula_same (Repetition r) u p hu s = s
  formula_same (Converse r) u p hu s = s
  formula_same (Test x) u p hu s = s

  step_same : (row : Row) (u v : ℕ) → PartsBelow q row → u < 64 → v < 64 → OneStep m a row u v → OneStep m b row u v
  step_same Never u v p hu hv s = s
  step_same (Flag f) u v p hu hv s = s
  step_same (Not x) u v p hu hv s = s
  step_same (Both x y) u v p hu hv s = s
  step_same (Either x y) u v p hu hv s = s
  step_same (Implies x y) u v p hu hv s = s
  step_same (Box r x) u v p hu hv s = s
  step_same (Diamond r x) u v p hu hv s = s
  step_same (Command c) u v p hu hv s = s
  step_same (Sequence r t) u v (p, o) hu hv (w, hw, (i, j)) =
      (w, hw, (moved r u w p hu (omega arith) i, moved t w v o (omega arith) hv j))
  step_same (Choice r t) u v (p, o) hu hv s =
      ⊎_elim (λ i. inl (moved r u v p hu hv i)) (λ i. inr (moved t u v o hu hv i)) s
  step_same (Repetition r) u v p hu hv s = ⊎_elim (λ i. inl (moved r u v p hu hv i)) inr s
  step_same (Converse r) u v p hu hv s = (s.0, moved r v u p hv hu s.1)
  step_same (Test x) u v p hu hv s = (moved x 0 u p (omega arith) hu s.0, s.1)

  program_same : (row : Row) (u v : ℕ) → PartsBelow q row → u < 64 → v < 64 → (u < m.modes) × ProgramSays m a row u v → ProgramSays m b row u v
  program_same Never u v p hu hv s = s.1
  program_same (Flag f) u v p hu hv s = s.1
  program_same (Not x) u v p hu hv s = s.1
  program_same (Both x y) u v p hu hv s = s.1
  program_same (Either x y) u v p hu hv s = s.1
  program_same (Implies x y) u v p hu hv s = s.1
  program_same (Box r x) u v p hu hv s = s.1
  program_same (Diamond r x) u v p hu hv s = s.1
  program_same (Command c) u v p hu hv s = s.1
  program_same (Sequence r t) u v p hu hv s = step_same (Sequence r t) u v p hu hv s.1
  program_same (Choice r t) u v p hu hv s = step_same (Choice r t) u v p hu hv s.1
  program_same (Repetition r) u v p hu hv (low, (k, walk)) = (
    k,
    walk_mapped (Step m.modes a r) (Step m.modes b r) (λ x. x < m.modes)
        (λ x y h s. (s.1, (s.0, s.1, moved r x y p (omega (arith, s.0)) (omega (arith, s.1)) s.2))) k u v low walk,
  )
  program_same (Converse r) u v p hu hv s = step_same (Converse r) u v p hu hv s.1
  program_same (Test x) u v p hu hv s = step_same (Test x) u v p hu hv s.1

  -- what a row says depends on the rows before it alone
  pub entry_same : (row : Row) (u v : ℕ) → PartsBelow q row → u < 64 → v < 64 → Entry m a row u v → Entry m b row u v
  entry_same row u v p hu hv e =
      ⊎_elim
      (λ f. inl (f.0, f.1, formula_same row v p hv f.2))
      (λ s. inr (s.0, program_same row u v p hu hv s))
      e

-- one step of a row, while the row itself is written
pub step_kept : (m : Meaning) (q : ℕ) (row : Row) (old t : List ℕ) (u v : ℕ) → m.modes ≤ 64 → PartsBelow q row → Only q old t → u < 64 → v < 64 → OneStep m t row u v → OneStep m old row u v
step_kept m q row old t u v few p o hu hv s =
    step_same m few q t old (λ j x y h hx hy. only_bit q j x y old t (λ e. omega arith) hx hy o) row u v p hu hv s

pub step_still : (m : Meaning) (q : ℕ) (row : Row) (old t : List ℕ) (u v : ℕ) → m.modes ≤ 64 → PartsBelow q row → Only q old t → u < 64 → v < 64 → OneStep m old row u v → OneStep m t row u v
step_still m q row old t u v few p o hu hv s =
    step_same m few q old t (λ j x y h hx hy. sym (only_bit q j x y old t (λ e. omega arith) hx hy o)) row u v p hu hv s

-- a formula, while its row itself is written
pub formula_kept : (m : Meaning) (q : ℕ) (row : Row) (old t : List ℕ) (u : ℕ) → m.modes ≤ 64 → PartsBelow q row → Only q old t → u < 64 → FormulaSays m t row u → FormulaSays m old row u
formula_kept m q row old t u few p o hu s =
    formula_same m few q t old (λ j x y h hx hy. only_bit q j x y old t (λ e. omega arith) hx hy o) row u p hu s

pub formula_still : (m : Meaning) (q : ℕ) (row : Row) (old t : List ℕ) (u : ℕ) → m.modes ≤ 64 → PartsBelow q row → Only q old t → u < 64 → FormulaSays m old row u → FormulaSays m t row u
formula_still m q row old t u few p o hu s =
    formula_same m few q old t (λ j x y h hx hy. sym (only_bit q j x y old t (λ e. omega arith) hx hy o)) row u p hu s

module _ (m : Meaning) (l : Limits m) (q : ℕ) (bs : List ℕ) (tidy : TidyBefore m.modes q bs) where
  program_tidy : (row : Row) (u v : ℕ) → PartsBelow q row → u < m.modes → v < 64 → ProgramSays m bs row u v → v < m.modes
  program_tidy Never u v p hu hv s = absurd s
  program_tidy (Flag f) u v p hu hv s = absurd s
  program_tidy (Not x) u v p hu hv s = absurd s
  program_tidy (Both x y) u v p hu hv s = absurd s
  program_tidy (Either x y) u v p hu hv s = absurd s
  program_tidy (Implies x y) u v p hu hv s = absurd s
  program_tidy (Box r x) u v p hu hv s = absurd s
  program_tidy (Diamond r x) u v p hu hv s = absurd s
  program_tidy (Command c) u v p hu hv s = (l.joins_in c u v s).2
  program_tidy (Sequence r t) u v (p, o) hu hv (w, hw, (i, j)) = tidy t w v o (omega (arith, l.modes_high)) hv j
  program_tidy (Choice r t) u v (p, o) hu hv s =
      ⊎_elim (tidy r u v p (omega (arith, l.modes_high)) hv) (tidy t u v o (omega (arith, l.modes_high)) hv) s
  program_tidy (Repetition r) u v p hu hv (k, walk) =
      kept_on (Step m.modes bs r) (λ x. x < m.modes) (λ x y h s. s.1) k u v hu walk
  program_tidy (Converse r) u v p hu hv s = s.0
  program_tidy (Test x) u v p hu hv s = let e = s.1 in omega arith

  -- what a row says is of modes alone
  entry_tidy : (row : Row) (u v : ℕ) → PartsBelow q row → v < 64 → Entry m bs row u v → v < m.modes
  entry_tidy row u v p hv e = ⊎_elim (λ f. f.1) (λ s. program_tidy row u v p s.0 hv s.1) e

-- in an orderly list the parts of a row are rows before it
pub parts_below : (rows : List Row) (q : ℕ) (row : Row) → PartsBefore rows q row → PartsBelow q row
parts_below rows q Never p = p
parts_below rows q (Flag f) p = p
parts_below rows q (Not x) p = p.0
parts_below rows q (Both x y) (p, r) = (p.0, r.0)
parts_below rows q (Either x y) (p, r) = (p.0, r.0)
parts_below rows q (Implies x y) (p, r) = (p.0, r.0)
parts_below rows q (Box r x) (p, t) = (p.0, t.0)
parts_below rows q (Diamond r x) (p, t) = (p.0, t.0)
parts_below rows q (Command c) p = p
parts_below rows q (Sequence r t) (p, o) = (p.0, o.0)
parts_below rows q (Choice r t) (p, o) = (p.0, o.0)
parts_below rows q (Repetition r) p = p.0
parts_below rows q (Converse r) p = p.0
parts_below rows q (Test x) p = p.0

-- a table of zeros
pub so_far_none : (m : Meaning) (rows : List Row) (t : List ℕ) → ((i : ℕ) → i < table_bytes → get_or t i 0 ≡ 0) → SoFar m rows 0 t
so_far_none m rows t zeros = record {
  done = λ q h. absurd (omega arith);
  clear = λ q low high u v hu hv. bit_zero t (512 * q + 8 * u + v / 8) (v % 8) (zeros _ (omega arith));
  tidy = λ j u v h. absurd (omega arith);
}

module _ (m : Meaning) (l : Limits m) (rows : List Row) (k : ℕ) (t new : List ℕ) (orderly : Orderly rows) (in_List : k < length rows) (few : length rows ≤ 48)
    (s : SoFar m rows k t) (f : Filled k (Entry m t (get_or rows k Never)) t new) where
  parts : (q : ℕ) → q < length rows → PartsBelow q (get_or rows q Never)
  parts q h = parts_below rows q (get_or rows q Never) (orderly q h)

  before_k : SameBefore k t new
  before_k j u v h hu hv = sym (only_bit k j u v t new (λ e. omega arith) hu hv f.only)

  after_k : SameBefore k new t
  after_k = same_back k t new before_k

  up_to : (q : ℕ) → q ≤ k → SameBefore q t new
  up_to q h j u v low hu hv = before_k j u v (omega arith) hu hv

  done_now : Done m new k (get_or rows k Never)
  done_now u v hu hv = (
    λ i. entry_same m l.modes_high k t new before_k _ u v (parts k in_List) hu hv (f.sound u v hu hv i),
    λ e. f.full u v hu hv (entry_same m l.modes_high k new t after_k _ u v (parts k in_List) hu hv e),
  )

  done_still : (q : ℕ) → q < k → Done m new q (get_or rows q Never)
  done_still q h u v hu hv =
      let same = before_k q u v h hu hv in
      let below = parts q (omega arith) in
      let low : q ≤ k = omega arith in (
        λ i. entry_same m l.modes_high q t new (up_to q low) _ u v below hu hv ((s.done q h u v hu hv).0 (same ∙ i)),
        λ e. sym same ∙ (s.done q h u v hu hv).1 (entry_same m l.modes_high q new t (same_back q t new (up_to q low)) _ u v below hu hv e),
      )

  -- one row more
  pub so_far_more : SoFar m rows (k + 1) new
  so_far_more = record {
    done = λ q h.
        ⊎_elim
        (λ e. subst (λ (x : ℕ). Done m new x (get_or rows x Never)) (sym e) done_now)
        (λ other. done_still q (omega arith))
        (cases_eq q k);
    clear = λ q low high u v hu hv.
        only_bit k q u v t new (λ e. omega arith) hu hv f.only ∙ s.clear q (omega arith) high u v hu hv;
    tidy = λ j u v h hu hv i.
        ⊎_elim
        (λ e.
        entry_tidy m l k t s.tidy (get_or rows k Never) u v (parts k in_List) hv (f.sound u v hu hv (subst (λ (x : ℕ). In new x u v) e i)))
        (λ other. s.tidy j u v (omega arith) hu hv (before_k j u v (omega arith) hu hv ∙ i))
        (cases_eq j k);
  }

-- Each row of an orderly list stands for exactly one tree, and rows that are put after it change nothing.
use Rattle.std.proofs.Common.{◌≡◌, ℕ, zero, suc, ◌<◌, Bool, true, false, List, ◌++◌, length, get_or, sym, refl, ap, ◌∙◌, subst, arith, length-append}
use Rattle.std.proofs.lemmas.List.{get_or_append_left}
use Rattle.logic.specs.Trees.{Formula, Program, never, flag, negation, both, either, implies, box, diamond, command, sequence, choice, repetition, converse, test}
use Rattle.logic.specs.Rows.{RowIs, FormulaRow, ProgramRow, is_formula, PartsBefore, Orderly, OneFormula, OneProgram, RowsStand}
use Rattle.logic.specs.declared.row.Row.{Row}
use Rattle.logic.specs.declared.row.Row.TheVariants.{Never, Flag, Not, Both, Either, Implies, Box, Diamond, Command, Sequence, Choice, Repetition, Converse, Test}

-- a row stays where rows are put after it
pub row_more : (rows more : List Row) (i : ℕ) (row : Row) → RowIs rows i row → RowIs (rows ++ more) i row
row_more rows more i row h = (omega (arith, h.0, length-append rows more), get_or_append_left rows more Never i h.0 ∙ h.1)

mutual
  -- rows that are put after a formula's row change nothing
  pub formula_more : (rows more : List Row) (i : ℕ) (x : Formula) → FormulaRow rows i x → FormulaRow (rows ++ more) i x
  formula_more rows more i never h = row_more rows more i Never h
  formula_more rows more i (flag p) h = row_more rows more i (Flag p) h
  formula_more rows more i (negation x) (j, h, p) = (j, row_more rows more i (Not j) h, formula_more rows more j x p)
  formula_more rows more i (both x y) (j, k, h, p, q) = (j, k, row_more rows more i (Both j k) h, formula_more rows more j x p, formula_more rows more k y q)
  formula_more rows more i (either x y) (j, k, h, p, q) = (j, k, row_more rows more i (Either j k) h, formula_more rows more j x p, formula_more rows more k y q)
  formula_more rows more i (implies x y) (j, k, h, p, q) = (j, k, row_more rows more i (Implies j k) h, formula_more rows more j x p, formula_more rows more k y q)
  formula_more rows more i (box r x) (j, k, h, p, q) = (j, k, row_more rows more i (Box j k) h, program_more rows more j r p, formula_more rows more k x q)
  formula_more rows more i (diamond r x) (j, k, h, p, q) = (j, k, row_more rows more i (Diamond j k) h, program_more rows more j r p, formula_more rows more k x q)

  -- rows that are put after a program's row change nothing
  pub program_more : (rows more : List Row) (i : ℕ) (r : Program) → ProgramRow rows i r → ProgramRow (rows ++ more) i r
  program_more rows more i (command a) h = row_more rows more i (Command a) h
  program_more rows more i (sequence r s) (j, k, h, p, q) = (j, k, row_more rows more i (Sequence j k) h, program_more rows more j r p, program_more rows more k s q)
  program_more rows more i (choice r s) (j, k, h, p, q) = (j, k, row_more rows more i (Choice j k) h, program_more rows more j r p, program_more rows more k s q)
  program_more rows more i (repetition r) (j, h, p) = (j, row_more rows more i (Repetition j) h, program_more rows more j r p)
  program_more rows more i (converse r) (j, h, p) = (j, row_more rows more i (Converse j) h, program_more rows more j r p)
  program_more rows more i (test x) (j, h, p) = (j, row_more rows more i (Test j) h, formula_more rows more j x p)

-- The formula, read off the row: what it is, and which rows its parts are.
abbrev pub FormulaBy : List Row → Row → Formula → Type 0
FormulaBy rows Never z = z ≡ never
FormulaBy rows (Flag p) z = z ≡ flag p
FormulaBy rows (Not j) z = (x : Formula) × (z ≡ negation x) × FormulaRow rows j x
FormulaBy rows (Both j k) z = (x : Formula) × (y : Formula) × (z ≡ both x y) × FormulaRow rows j x × FormulaRow rows k y
FormulaBy rows (Either j k) z = (x : Formula) × (y : Formula) × (z ≡ either x y) × FormulaRow rows j x × FormulaRow rows k y
FormulaBy rows (Implies j k) z = (x : Formula) × (y : Formula) × (z ≡ implies x y) × FormulaRow rows j x × FormulaRow rows k y
FormulaBy rows (Box j k) z = (r : Program) × (x : Formula) × (z ≡ box r x) × ProgramRow rows j r × FormulaRow rows k x
FormulaBy rows (Diamond j k) z = (r : Program) × (x : Formula) × (z ≡ diamond r x) × ProgramRow rows j r × FormulaRow rows k x
FormulaBy rows (Command a) z = ⊥
FormulaBy rows (Sequence j k) z = ⊥
FormulaBy rows (Choice j k) z = ⊥
FormulaBy rows (Repetition j) z = ⊥
FormulaBy rows (Converse j) z = ⊥
FormulaBy rows (Test j) z = ⊥

-- The program, read off the row: what it is, and which rows its parts are.
abbrev pub ProgramBy : List Row → Row → Program → Type 0
ProgramBy rows Never t = ⊥
ProgramBy rows (Flag p) t = ⊥
ProgramBy rows (Not j) t = ⊥
ProgramBy rows (Both j k) t = ⊥
ProgramBy rows (Either j k) t = ⊥
ProgramBy rows (Implies j k) t = ⊥
ProgramBy rows (Box j k) t = ⊥
ProgramBy rows (Diamond j k) t = ⊥
ProgramBy rows (Command a) t = t ≡ command a
ProgramBy rows (Sequence j k) t = (r : Program) × (s : Program) × (t ≡ sequence r s) × ProgramRow rows j r × ProgramRow rows k s
ProgramBy rows (Choice j k) t = (r : Program) × (s : Program) × (t ≡ choice r s) × ProgramRow rows j r × ProgramRow rows k s
ProgramBy rows (Repetition j) t = (r : Program) × (t ≡ repetition r) × ProgramRow rows j r
ProgramBy rows (Converse j) t = (r : Program) × (t ≡ converse r) × ProgramRow rows j r
ProgramBy rows (Test j) t = (x : Formula) × (t ≡ test x) × FormulaRow rows j x

module _ (rows : List Row) (i : ℕ) (row : Row) (is : get_or rows i Never ≡ row) where
  formula_read : (z : Formula) (other : Row) → get_or rows i Never ≡ other → FormulaBy rows other z → FormulaBy rows row z
  formula_read z other e h = subst (λ (w : Row). FormulaBy rows w z) (sym e ∙ is) h

  -- a formula's row, read off
  pub formula_by : (z : Formula) → FormulaRow rows i z → FormulaBy rows row z
  formula_by never h = formula_read never Never h.1 refl
  formula_by (flag p) h = formula_read (flag p) (Flag p) h.1 refl
  formula_by (negation x) (j, h, p) = formula_read (negation x) (Not j) h.1 (x, refl, p)
  formula_by (both x y) (j, k, h, p, q) = formula_read (both x y) (Both j k) h.1 (x, y, refl, p, q)
  formula_by (either x y) (j, k, h, p, q) = formula_read (either x y) (Either j k) h.1 (x, y, refl, p, q)
  formula_by (implies x y) (j, k, h, p, q) = formula_read (implies x y) (Implies j k) h.1 (x, y, refl, p, q)
  formula_by (box r x) (j, k, h, p, q) = formula_read (box r x) (Box j k) h.1 (r, x, refl, p, q)
  formula_by (diamond r x) (j, k, h, p, q) = formula_read (diamond r x) (Diamond j k) h.1 (r, x, refl, p, q)

  program_read : (t : Program) (other : Row) → get_or rows i Never ≡ other → ProgramBy rows other t → ProgramBy rows row t
  program_read t other e h = subst (λ (w : Row). ProgramBy rows w t) (sym e ∙ is) h

  -- a program's row, read off
  pub program_by : (t : Program) → ProgramRow rows i t → ProgramBy rows row t
  program_by (command a) h = program_read (command a) (Command a) h.1 refl
  program_by (sequence r s) (j, k, h, p, q) = program_read (sequence r s) (Sequence j k) h.1 (r, s, refl, p, q)
  program_by (choice r s) (j, k, h, p, q) = program_read (choice r s) (Choice j k) h.1 (r, s, refl, p, q)
  program_by (repetition r) (j, h, p) = program_read (repetition r) (Repetition j) h.1 (r, refl, p)
  program_by (converse r) (j, h, p) = program_read (converse r) (Converse j) h.1 (r, refl, p)
  program_by (test x) (j, h, p) = program_read (test x) (Test j) h.1 (x, refl, p)

-- a row has the sort of the row that it is
sort_is : (rows : List Row) (i : ℕ) (row : Row) → RowIs rows i row → (i < length rows) × (is_formula (get_or rows i Never) ≡ is_formula row)
sort_is rows i row h = (h.0, ap is_formula h.1)

-- a row that stands for a formula is in the list, and is a formula
pub formula_sort : (rows : List Row) (i : ℕ) (x : Formula) → FormulaRow rows i x → (i < length rows) × (is_formula (get_or rows i Never) ≡ true)
formula_sort rows i never h = sort_is rows i Never h
formula_sort rows i (flag p) h = sort_is rows i (Flag p) h
formula_sort rows i (negation x) (j, h, p) = sort_is rows i (Not j) h
formula_sort rows i (both x y) (j, k, h, p, q) = sort_is rows i (Both j k) h
formula_sort rows i (either x y) (j, k, h, p, q) = sort_is rows i (Either j k) h
formula_sort rows i (implies x y) (j, k, h, p, q) = sort_is rows i (Implies j k) h
formula_sort rows i (box r x) (j, k, h, p, q) = sort_is rows i (Box j k) h
formula_sort rows i (diamond r x) (j, k, h, p, q) = sort_is rows i (Diamond j k) h

-- a row that stands for a program is in the list, and is a program
pub program_sort : (rows : List Row) (i : ℕ) (r : Program) → ProgramRow rows i r → (i < length rows) × (is_formula (get_or rows i Never) ≡ false)
program_sort rows i (command a) h = sort_is rows i (Command a) h
program_sort rows i (sequence r s) (j, k, h, p, q) = sort_is rows i (Sequence j k) h
program_sort rows i (choice r s) (j, k, h, p, q) = sort_is rows i (Choice j k) h
program_sort rows i (repetition r) (j, h, p) = sort_is rows i (Repetition j) h
program_sort rows i (converse r) (j, h, p) = sort_is rows i (Converse j) h
program_sort rows i (test x) (j, h, p) = sort_is rows i (Test j) h

-- two parts that are equal make trees that are equal
same_two : {A B C : Type 0} (make : A → B → C) {a a' : A} {b b' : B} → a ≡ a' → b ≡ b' → make a b ≡ make a' b'
same_two make e f = λ i. make (e i) (f i)

mutual
  -- two formulas of one row are equal
  pub formula_same : (rows : List Row) (i : ℕ) (x z : Formula) → FormulaRow rows i x → FormulaRow rows i z → z ≡ x
  formula_same rows i never z h g = formula_by rows i Never h.1 z g
  formula_same rows i (flag p) z h g = formula_by rows i (Flag p) h.1 z g
  formula_same rows i (negation x) z (j, h, p) g =
      let s = formula_by rows i (Not j) h.1 z g in s.1 ∙ ap negation (formula_same rows j x s.0 p s.2)
  formula_same rows i (both x y) z (j, k, h, p, q) g =
      let s = formula_by rows i (Both j k) h.1 z g in
      s.2 ∙ same_two both (formula_same rows j x s.0 p s.3) (formula_same rows k y s.1 q s.4)
  formula_same rows i (either x y) z (j, k, h, p, q) g =
      let s = formula_by rows i (Either j k) h.1 z g in
      s.2 ∙ same_two either (formula_same rows j x s.0 p s.3) (formula_same rows k y s.1 q s.4)
  formula_same rows i (implies x y) z (j, k, h, p, q) g =
      let s = formula_by rows i (Implies j k) h.1 z g in
      s.2 ∙ same_two implies (formula_same rows j x s.0 p s.3) (formula_same rows k y s.1 q s.4)
  formula_same rows i (box r x) z (j, k, h, p, q) g =
      let s = formula_by rows i (Box j k) h.1 z g in
      s.2 ∙ same_two box (program_same rows j r s.0 p s.3) (formula_same rows k x s.1 q s.4)
  formula_same rows i (diamond r x) z (j, k, h, p, q) g =
      let s = formula_by rows i (Diamond j k) h.1 z g in
      s.2 ∙ same_two diamond (program_same rows j r s.0 p s.3) (formula_same rows k x s.1 q s.4)

  -- two programs of one row are equal
  pub program_same : (rows : List Row) (i : ℕ) (r t : Program) → ProgramRow rows i r → ProgramRow rows i t → t ≡ r
  program_same rows i (command a) t h g = program_by rows i (Command a) h.1 t g
  program_same rows i (sequence r s) t (j, k, h, p, q) g =
      let w = program_by rows i (Sequence j k) h.1 t g in
      w.2 ∙ same_two sequence (program_same rows j r w.0 p w.3) (program_same rows k s w.1 q w.4)
  program_same rows i (choice r s) t (j, k, h, p, q) g =
      let w = program_by rows i (Choice j k) h.1 t g in
      w.2 ∙ same_two choice (program_same rows j r w.0 p w.3) (program_same rows k s w.1 q w.4)
  program_same rows i (repetition r) t (j, h, p) g =
      let w = program_by rows i (Repetition j) h.1 t g in w.1 ∙ ap repetition (program_same rows j r w.0 p w.2)
  program_same rows i (converse r) t (j, h, p) g =
      let w = program_by rows i (Converse j) h.1 t g in w.1 ∙ ap converse (program_same rows j r w.0 p w.2)
  program_same rows i (test x) t (j, h, p) g =
      let w = program_by rows i (Test j) h.1 t g in w.1 ∙ ap test (formula_same rows j x w.0 p w.2)

-- row i, which is of the sort that is told, stands for a tree of that sort
abbrev HasTree : List Row → ℕ → Bool → Type 0
HasTree rows i true = (x : Formula) × FormulaRow rows i x
HasTree rows i false = (r : Program) × ProgramRow rows i r

-- a row whose parts stand for trees stands for a tree
tree_of : (rows : List Row) (i : ℕ) (row : Row) → i < length rows → get_or rows i Never ≡ row → PartsBefore rows i row
    → ((j : ℕ) (b : Bool) → j < i → is_formula (get_or rows j Never) ≡ b → HasTree rows j b) → HasTree rows i (is_formula row)
tree_of rows i Never l e p at = (never, (l, e))
tree_of rows i (Flag f) l e p at = (flag f, (l, e))
tree_of rows i (Not j) l e p at = let x = at j true p.0 p.1 in (negation x.0, (j, (l, e), x.1))
tree_of rows i (Both j k) l e (p, q) at =
    let x = at j true p.0 p.1 in let y = at k true q.0 q.1 in (both x.0 y.0, (j, k, (l, e), x.1, y.1))
tree_of rows i (Either j k) l e (p, q) at =
    let x = at j true p.0 p.1 in let y = at k true q.0 q.1 in (either x.0 y.0, (j, k, (l, e), x.1, y.1))
tree_of rows i (Implies j k) l e (p, q) at =
    let x = at j true p.0 p.1 in let y = at k true q.0 q.1 in (implies x.0 y.0, (j, k, (l, e), x.1, y.1))
tree_of rows i (Box j k) l e (p, q) at =
    let r = at j false p.0 p.1 in let x = at k true q.0 q.1 in (box r.0 x.0, (j, k, (l, e), r.1, x.1))
tree_of rows i (Diamond j k) l e (p, q) at =
    let r = at j false p.0 p.1 in let x = at k true q.0 q.1 in (diamond r.0 x.0, (j, k, (l, e), r.1, x.1))
tree_of rows i (Command a) l e p at = (command a, (l, e))
tree_of rows i (Sequence j k) l e (p, q) at =
    let r = at j false p.0 p.1 in let s = at k false q.0 q.1 in (sequence r.0 s.0, (j, k, (l, e), r.1, s.1))
tree_of rows i (Choice j k) l e (p, q) at =
    let r = at j false p.0 p.1 in let s = at k false q.0 q.1 in (choice r.0 s.0, (j, k, (l, e), r.1, s.1))
tree_of rows i (Repetition j) l e p at = let r = at j false p.0 p.1 in (repetition r.0, (j, (l, e), r.1))
tree_of rows i (Converse j) l e p at = let r = at j false p.0 p.1 in (converse r.0, (j, (l, e), r.1))
tree_of rows i (Test j) l e p at = let x = at j true p.0 p.1 in (test x.0, (j, (l, e), x.1))

module _ (rows : List Row) (orderly : Orderly rows) where
  tree_below : (n i : ℕ) (b : Bool) → i < n → i < length rows → is_formula (get_or rows i Never) ≡ b → HasTree rows i b
  tree_below zero i b h l e = absurd (omega arith)
  tree_below (suc n) i b h l e =
      subst (HasTree rows i) e
      (tree_of rows i (get_or rows i Never) l refl (orderly i l) (λ j c lower is. tree_below n j c (omega arith) (omega arith) is))

  -- a formula's row stands for exactly one formula
  pub one_formula : (i : ℕ) → i < length rows → is_formula (get_or rows i Never) ≡ true → OneFormula rows i
  one_formula i l e = let x = tree_below (length rows) i true l l e in (x.0, x.1, λ z h. formula_same rows i x.0 z x.1 h)

  -- a program's row stands for exactly one program
  pub one_program : (i : ℕ) → i < length rows → is_formula (get_or rows i Never) ≡ false → OneProgram rows i
  one_program i l e = let r = tree_below (length rows) i false l l e in (r.0, r.1, λ s h. program_same rows i r.0 s r.1 h)

-- all that is promised of rows
pub rows_stand : RowsStand
rows_stand = record {
  one_formula = one_formula;
  one_program = one_program;
  formula_sort = formula_sort;
  program_sort = program_sort;
  formula_stays = formula_more;
  program_stays = program_more;
}

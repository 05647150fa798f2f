-- The rows that a tree adds: they stand behind those that there were, and the last of them stands for the tree.
use Rattle.std.proofs.Common.{◌≡◌, ℕ, ◌-◌, ◌≤◌, List, [], ◌∷◌, ◌++◌, length, sym, refl, ap, ◌∙◌, subst, append_assoc, append-nil, arith, length-append}
use Rattle.std.proofs.lemmas.List.{get_or_push, length_push}
use Rattle.logic.specs.Rows.{RowIs, FormulaRow, ProgramRow}
use Rattle.logic.specs.Trees.{Formula, Program, never, flag, negation, both, either, implies, box, diamond, command, sequence, choice, repetition, converse, test}
use Rattle.logic.specs.declared.row.Row.{Row}
use Rattle.logic.specs.declared.row.Row.TheVariants.{Never, Flag, Not, Both, Either, Implies, Box, Diamond, Command, Sequence, Choice, Repetition, Converse, Test}
use Rattle.logic.proofs.Rows.{formula_more, program_more}
use Rattle.sheet.specs.Grammar.{last, with_formula, with_program, Sentence, rows_after}

-- the second list is the first with more behind it
abbrev pub Behind : List Row → List Row → Type 0
Behind a b = (more : List Row) × (b ≡ a ++ more)

pub behind_same : (a : List Row) → Behind a a
behind_same a = ([], sym (append-nil a))

behind_push : (a : List Row) (row : Row) → Behind a (a ++ row ∷ [])
behind_push a row = (row ∷ [], refl)

pub behind_both : (a b c : List Row) → Behind a b → Behind b c → Behind a c
behind_both a b c (m, e) (n, f) = (m ++ n, f ∙ ap (λ (x : List Row). x ++ n) e ∙ append_assoc a m n)

-- so it is with one row more behind, and behind a second list
one_behind : (a b : List Row) (row : Row) → Behind a b → Behind a (b ++ row ∷ [])
one_behind a b row p = behind_both a b (b ++ row ∷ []) p (behind_push b row)

two_behind : (a b c : List Row) (row : Row) → Behind a b → Behind b c → Behind a (c ++ row ∷ [])
two_behind a b c row p q = behind_both a b (c ++ row ∷ []) p (one_behind b c row q)

pub behind_longer : (a b : List Row) → Behind a b → length a ≤ length b
behind_longer a b (m, e) = omega (arith, ap length e, length-append a m)

mutual
  pub formula_behind : (x : Formula) (rows : List Row) → Behind rows (with_formula x rows)
  formula_behind never rows = behind_push rows Never
  formula_behind (flag p) rows = behind_push rows (Flag p)
  formula_behind (negation x) rows = one_behind rows (with_formula x rows) _ (formula_behind x rows)
  formula_behind (both x y) rows = two_behind rows (with_formula x rows) (with_formula y (with_formula x rows)) _ (formula_behind x rows) (formula_behind y (with_formula x rows))
  formula_behind (either x y) rows = two_behind rows (with_formula x rows) (with_formula y (with_formula x rows)) _ (formula_behind x rows) (formula_behind y (with_formula x rows))
  formula_behind (implies x y) rows = two_behind rows (with_formula x rows) (with_formula y (with_formula x rows)) _ (formula_behind x rows) (formula_behind y (with_formula x rows))
  formula_behind (box r x) rows = two_behind rows (with_program r rows) (with_formula x (with_program r rows)) _ (program_behind r rows) (formula_behind x (with_program r rows))
  formula_behind (diamond r x) rows = two_behind rows (with_program r rows) (with_formula x (with_program r rows)) _ (program_behind r rows) (formula_behind x (with_program r rows))

  pub program_behind : (r : Program) (rows : List Row) → Behind rows (with_program r rows)
  program_behind (command a) rows = behind_push rows (Command a)
  program_behind (sequence r s) rows = two_behind rows (with_program r rows) (with_program s (with_program r rows)) _ (program_behind r rows) (program_behind s (with_program r rows))
  program_behind (choice r s) rows = two_behind rows (with_program r rows) (with_program s (with_program r rows)) _ (program_behind r rows) (program_behind s (with_program r rows))
  program_behind (repetition r) rows = one_behind rows (with_program r rows) _ (program_behind r rows)
  program_behind (converse r) rows = one_behind rows (with_program r rows) _ (program_behind r rows)
  program_behind (test x) rows = one_behind rows (with_formula x rows) _ (formula_behind x rows)

-- what a row stands for stays where rows are put behind
pub formula_still : (a b : List Row) (i : ℕ) (x : Formula) → Behind a b → FormulaRow a i x → FormulaRow b i x
formula_still a b i x (m, e) h = subst (λ (r : List Row). FormulaRow r i x) (sym e) (formula_more a m i x h)

pub program_still : (a b : List Row) (i : ℕ) (r : Program) → Behind a b → ProgramRow a i r → ProgramRow b i r
program_still a b i r (m, e) h = subst (λ (z : List Row). ProgramRow z i r) (sym e) (program_more a m i r h)

-- a part's last row, under a row that was put behind
formula_part : (a b : List Row) (row : Row) (x : Formula) → Behind a b → FormulaRow a (last a) x → FormulaRow (b ++ row ∷ []) (last a) x
formula_part a b row x p = formula_still a (b ++ row ∷ []) (last a) x (one_behind a b row p)

program_part : (a b : List Row) (row : Row) (r : Program) → Behind a b → ProgramRow a (last a) r → ProgramRow (b ++ row ∷ []) (last a) r
program_part a b row r p = program_still a (b ++ row ∷ []) (last a) r (one_behind a b row p)

-- the row that was put behind is the last
last_is : (a : List Row) (row : Row) → RowIs (a ++ row ∷ []) (last (a ++ row ∷ [])) row
last_is a row = (omega (arith, length_push a row), get_or_push a row Never (length (a ++ row ∷ []) - 1) (omega (arith, length_push a row)))

mutual
  -- the last row stands for the tree
  pub formula_stands : (x : Formula) (rows : List Row) → FormulaRow (with_formula x rows) (last (with_formula x rows)) x
  formula_stands never rows = last_is rows Never
  formula_stands (flag p) rows = last_is rows (Flag p)
  formula_stands (negation x) rows =
      let a = with_formula x rows in
      let row = Not (last a) in
      (last a, last_is a row, formula_part a a row x (behind_same a) (formula_stands x rows))
  formula_stands (both x y) rows =
      let a = with_formula x rows in
      let b = with_formula y a in
      let row = Both (last a) (last b) in
      (last a, last b, last_is b row, formula_part a b row x (formula_behind y a) (formula_stands x rows), formula_part b b row y (behind_same b) (formula_stands y a))
  formula_stands (either x y) rows =
      let a = with_formula x rows in
      let b = with_formula y a in
      let row = Either (last a) (last b) in
      (last a, last b, last_is b row, formula_part a b row x (formula_behind y a) (formula_stands x rows), formula_part b b row y (behind_same b) (formula_stands y a))
  formula_stands (implies x y) rows =
      let a = with_formula x rows in
      let b = with_formula y a in
      let row = Implies (last a) (last b) in
      (last a, last b, last_is b row, formula_part a b row x (formula_behind y a) (formula_stands x rows), formula_part b b row y (behind_same b) (formula_stands y a))
  formula_stands (box r x) rows =
      let a = with_program r rows in
      let b = with_formula x a in
      let row = Box (last a) (last b) in
      (last a, last b, last_is b row, program_part a b row r (formula_behind x a) (program_stands r rows), formula_part b b row x (behind_same b) (formula_stands x a))
  formula_stands (diamond r x) rows =
      let a = with_program r rows in
      let b = with_formula x a in
      let row = Diamond (last a) (last b) in
      (last a, last b, last_is b row, program_part a b row r (formula_behind x a) (program_stands r rows), formula_part b b row x (behind_same b) (formula_stands x a))

  pub program_stands : (r : Program) (rows : List Row) → ProgramRow (with_program r rows) (last (with_program r rows)) r
  program_stands (command a) rows = last_is rows (Command a)
  program_stands (sequence r s) rows =
      let a = with_program r rows in
      let b = with_program s a in
      let row = Sequence (last a) (last b) in
      (last a, last b, last_is b row, program_part a b row r (program_behind s a) (program_stands r rows), program_part b b row s (behind_same b) (program_stands s a))
  program_stands (choice r s) rows =
      let a = with_program r rows in
      let b = with_program s a in
      let row = Choice (last a) (last b) in
      (last a, last b, last_is b row, program_part a b row r (program_behind s a) (program_stands r rows), program_part b b row s (behind_same b) (program_stands s a))
  program_stands (repetition r) rows =
      let a = with_program r rows in
      let row = Repetition (last a) in
      (last a, last_is a row, program_part a a row r (behind_same a) (program_stands r rows))
  program_stands (converse r) rows =
      let a = with_program r rows in
      let row = Converse (last a) in
      (last a, last_is a row, program_part a a row r (behind_same a) (program_stands r rows))
  program_stands (test x) rows =
      let a = with_formula x rows in
      let row = Test (last a) in
      (last a, last_is a row, formula_part a a row x (behind_same a) (formula_stands x rows))

-- so do the rows of sentences
pub rows_behind : (xs : List Sentence) (rows : List Row) → Behind rows (rows_after xs rows)
rows_behind [] rows = behind_same rows
rows_behind (x ∷ xs) rows = behind_both rows (with_formula x.formula rows) _ (formula_behind x.formula rows) (rows_behind xs (with_formula x.formula rows))

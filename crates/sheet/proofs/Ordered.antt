-- The rows of a sheet that was read are in order, and each claim's row stands for its formula.
use Rattle.std.proofs.Common.{List, [], ◌∷◌, refl}
use Rattle.logic.specs.Rows.{Orderly}
use Rattle.logic.specs.Trees.{Formula, Program, never, flag, negation, both, either, implies, box, diamond, command, sequence, choice, repetition, converse, test}
use Rattle.logic.specs.declared.row.Row.{Row}
use Rattle.logic.specs.declared.row.Row.TheVariants.{Never, Flag, Not, Both, Either, Implies, Box, Diamond, Command, Sequence, Choice, Repetition, Converse, Test}
use Rattle.logic.proofs.Orderly.{orderly_none, orderly_push}
use Rattle.logic.proofs.Rows.{formula_sort, program_sort}
use Rattle.sheet.specs.Grammar.{last, with_formula, with_program, Sentence, rows_after, claims_after, ClaimsStand}
use Rattle.sheet.proofs.Added.{formula_behind, program_behind, formula_still, program_still, formula_stands, program_stands, rows_behind}

-- a tree added to rows in order leaves rows in order
mutual
  formula_orderly : (x : Formula) (rows : List Row) → Orderly rows → Orderly (with_formula x rows)
  formula_orderly never rows o = orderly_push rows Never o tt
  formula_orderly (flag p) rows o = orderly_push rows (Flag p) o tt
  formula_orderly (negation x) rows o = let a = with_formula x rows in orderly_push a (Not (last a)) (formula_orderly x rows o) (formula_sort a (last a) x (formula_stands x rows))
  formula_orderly (both x y) rows o =
      let a = with_formula x rows in
      let b = with_formula y a in
      orderly_push b (Both (last a) (last b)) (formula_orderly y a (formula_orderly x rows o))
      (formula_sort b (last a) x (formula_still a b (last a) x (formula_behind y a) (formula_stands x rows)), formula_sort b (last b) y (formula_stands y a))
  formula_orderly (either x y) rows o =
      let a = with_formula x rows in
      let b = with_formula y a in
      orderly_push b (Either (last a) (last b)) (formula_orderly y a (formula_orderly x rows o))
      (formula_sort b (last a) x (formula_still a b (last a) x (formula_behind y a) (formula_stands x rows)), formula_sort b (last b) y (formula_stands y a))
  formula_orderly (implies x y) rows o =
      let a = with_formula x rows in
      let b = with_formula y a in
      orderly_push b (Implies (last a) (last b)) (formula_orderly y a (formula_orderly x rows o))
      (formula_sort b (last a) x (formula_still a b (last a) x (formula_behind y a) (formula_stands x rows)), formula_sort b (last b) y (formula_stands y a))
  formula_orderly (box r x) rows o =
      let a = with_program r rows in
      let b = with_formula x a in
      orderly_push b (Box (last a) (last b)) (formula_orderly x a (program_orderly r rows o))
      (program_sort b (last a) r (program_still a b (last a) r (formula_behind x a) (program_stands r rows)), formula_sort b (last b) x (formula_stands x a))
  formula_orderly (diamond r x) rows o =
      let a = with_program r rows in
      let b = with_formula x a in
      orderly_push b (Diamond (last a) (last b)) (formula_orderly x a (program_orderly r rows o))
      (program_sort b (last a) r (program_still a b (last a) r (formula_behind x a) (program_stands r rows)), formula_sort b (last b) x (formula_stands x a))

  program_orderly : (r : Program) (rows : List Row) → Orderly rows → Orderly (with_program r rows)
  program_orderly (command a) rows o = orderly_push rows (Command a) o tt
  program_orderly (sequence r s) rows o =
      let a = with_program r rows in
      let b = with_program s a in
      orderly_push b (Sequence (last a) (last b)) (program_orderly s a (program_orderly r rows o))
      (program_sort b (last a) r (program_still a b (last a) r (program_behind s a) (program_stands r rows)), program_sort b (last b) s (program_stands s a))
  program_orderly (choice r s) rows o =
      let a = with_program r rows in
      let b = with_program s a in
      orderly_push b (Choice (last a) (last b)) (program_orderly s a (program_orderly r rows o))
      (program_sort b (last a) r (program_still a b (last a) r (program_behind s a) (program_stands r rows)), program_sort b (last b) s (program_stands s a))
  program_orderly (repetition r) rows o = let a = with_program r rows in orderly_push a (Repetition (last a)) (program_orderly r rows o) (program_sort a (last a) r (program_stands r rows))
  program_orderly (converse r) rows o = let a = with_program r rows in orderly_push a (Converse (last a)) (program_orderly r rows o) (program_sort a (last a) r (program_stands r rows))
  program_orderly (test x) rows o = let a = with_formula x rows in orderly_push a (Test (last a)) (formula_orderly x rows o) (formula_sort a (last a) x (formula_stands x rows))

rows_orderly : (xs : List Sentence) (rows : List Row) → Orderly rows → Orderly (rows_after xs rows)
rows_orderly [] rows o = o
rows_orderly (x ∷ xs) rows o = rows_orderly xs (with_formula x.formula rows) (formula_orderly x.formula rows o)

pub sheet_orderly : (xs : List Sentence) → Orderly (rows_after xs [])
sheet_orderly xs = rows_orderly xs [] orderly_none

pub claims_stand : (xs : List Sentence) (rows : List Row) → ClaimsStand (rows_after xs rows) (claims_after xs rows) xs
claims_stand [] rows = tt
claims_stand (x ∷ xs) rows =
    let a = with_formula x.formula rows in
    (refl, formula_still a (rows_after xs a) (last a) x.formula (rows_behind xs a) (formula_stands x.formula rows), claims_stand xs a)

-- A list of rows stays orderly where a row is put after it whose parts are rows of the list.
use Rattle.std.proofs.Common.{◌≡◌, ℕ, ◌<◌, ◌≤◌, Bool, List, [], ◌∷◌, ◌++◌, length, get_or, sym, ap, ◌∙◌, subst, ⊎_elim, arith}
use Rattle.std.proofs.lemmas.List.{get_or_append_left, get_or_push, length_push}
use Rattle.std.proofs.lemmas.Bool.{cases_lt}
use Rattle.logic.specs.Rows.{is_formula, PartsBefore, Orderly}
use Rattle.logic.specs.declared.row.Row.{Row}
use Rattle.logic.specs.declared.row.Row.TheVariants.{Never, Flag, Not, Both, Either, Implies, Box, Diamond, Command, Sequence, Choice, Repetition, Converse, Test}

-- no rows are orderly
pub orderly_none : Orderly []
orderly_none i l = tt

module _ (rows more : List Row) (i : ℕ) (high : i ≤ length rows) where
  before_more : (j : ℕ) (b : Bool) → (j < i) × (is_formula (get_or rows j Never) ≡ b) → (j < i) × (is_formula (get_or (rows ++ more) j Never) ≡ b)
  before_more j b (l, e) = (l, ap is_formula (get_or_append_left rows more Never j (omega arith)) ∙ e)

  -- parts stay where rows are put after the list
  pub parts_more : (row : Row) → PartsBefore rows i row → PartsBefore (rows ++ more) i row
  parts_more Never p = p
  parts_more (Flag f) p = p
  parts_more (Not j) p = before_more j _ p
  parts_more (Both j k) (p, q) = (before_more j _ p, before_more k _ q)
  parts_more (Either j k) (p, q) = (before_more j _ p, before_more k _ q)
  parts_more (Implies j k) (p, q) = (before_more j _ p, before_more k _ q)
  parts_more (Box j k) (p, q) = (before_more j _ p, before_more k _ q)
  parts_more (Diamond j k) (p, q) = (before_more j _ p, before_more k _ q)
  parts_more (Command a) p = p
  parts_more (Sequence j k) (p, q) = (before_more j _ p, before_more k _ q)
  parts_more (Choice j k) (p, q) = (before_more j _ p, before_more k _ q)
  parts_more (Repetition j) p = before_more j _ p
  parts_more (Converse j) p = before_more j _ p
  parts_more (Test j) p = before_more j _ p

-- one more row whose parts are in the list
pub orderly_push : (rows : List Row) (row : Row) → Orderly rows → PartsBefore rows (length rows) row → Orderly (rows ++ row ∷ [])
orderly_push rows row orderly parts i l =
    ⊎_elim
    (λ lower.
    subst (PartsBefore (rows ++ row ∷ []) i) (sym (get_or_append_left rows (row ∷ []) Never i lower))
    (parts_more rows (row ∷ []) i (omega arith) (get_or rows i Never) (orderly i lower)))
    (λ high.
    let last : length rows ≡ i = omega (arith, length_push rows row) in
    subst (PartsBefore (rows ++ row ∷ []) i) (sym (get_or_push rows row Never i last))
    (parts_more rows (row ∷ []) i (omega arith) row (subst (λ (k : ℕ). PartsBefore rows k row) last parts)))
    (cases_lt i (length rows))

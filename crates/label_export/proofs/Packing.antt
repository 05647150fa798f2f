-- Rows that are put behind each other are those that the bytes mean.
use Rattle.std.proofs.Common.{◌≡◌, ℕ, ◌<◌, ◌≤◌, List, [], ◌∷◌, ◌++◌, length, get_or, drop, Some, None, Option, sym, refl, ap, subst, ◌∙◌, append_assoc, arith, length-append}
use Rattle.std.proofs.lemmas.Bool.{cond-true, lt-ltb}
use Rattle.logic.specs.Sheets.{row_limit, rows_with}
use Rattle.logic.specs.declared.row.Row.{Row}
use Rattle.label_export.specs.Answers.{NoRows}
use Rattle.label_export.specs.Packed.{row_of, rows_of, before}

-- rows, and others behind them
abbrev pub behind : List Row → Option (List Row) → Option (List Row)
behind rows None = None
behind rows (Some others) = Some (rows ++ others)

-- the rows so far, with those of the bytes that are left behind them, are the rows of all bytes
pub record SoFar (bytes : List ℕ) (rows : List Row) (rest : List ℕ) : Type 0 where
  pub made : rows_of bytes ≡ behind rows (rows_of rest)
  pub room : length rows ≤ row_limit

-- no rows, and others behind them
behind_none : (others : Option (List Row)) → others ≡ behind [] others
behind_none None = refl
behind_none (Some others) = refl

-- before the first three bytes there are no rows
pub so_far_none : (bytes : List ℕ) (rows : List Row) → rows ≡ [] → SoFar bytes rows bytes
so_far_none bytes rows none =
    subst (λ (front : List Row). SoFar bytes front bytes) (sym none) (record { made = behind_none (rows_of bytes); room = omega arith })

-- one row more
behind_more : (rows : List Row) (row : Row) (others : Option (List Row)) → behind rows (before (Some row) others) ≡ behind (rows ++ row ∷ []) others
behind_more rows row None = refl
behind_more rows row (Some others) = ap Some (sym (append_assoc rows (row ∷ []) others))

-- three bytes are a row before those of the bytes behind them
rows_of_three : (rest : List ℕ) → 3 ≤ length rest → rows_of rest ≡ before (row_of (get_or rest 0 0) (get_or rest 1 0) (get_or rest 2 0)) (rows_of (drop 3 rest))
rows_of_three [] h = absurd (omega arith)
rows_of_three (k ∷ []) h = absurd (omega arith)
rows_of_three (k ∷ x ∷ []) h = absurd (omega arith)
rows_of_three (k ∷ x ∷ y ∷ rest) h = refl

-- the row of the three bytes at the front
abbrev pub Front : List ℕ → Row → Type 0
Front rest row = (3 ≤ length rest) × (row_of (get_or rest 0 0) (get_or rest 1 0) (get_or rest 2 0) ≡ Some row)

-- the rows so far, and the one of the three bytes at the front
with_front :
    (bytes : List ℕ) (rows : List Row) (rest : List ℕ) (row : Row)
    → Front rest row
    → SoFar bytes rows rest
    → rows_of bytes ≡ behind rows (before (Some row) (rows_of (drop 3 rest)))
with_front bytes rows rest row (long, is) far =
    far.made ∙ ap (behind rows) (rows_of_three rest long ∙ ap (λ (o : Option Row). before o (rows_of (drop 3 rest))) is)

-- where there is room, that row is put behind the others
pub so_far_more :
    (bytes : List ℕ) (rows : List Row) (rest : List ℕ) (row : Row) (rows' : List Row) (rest' : List ℕ)
    → Front rest row
    → length rows < row_limit
    → rows' ≡ rows_with row rows
    → rest' ≡ drop 3 rest
    → SoFar bytes rows rest
    → SoFar bytes rows' rest'
so_far_more bytes rows rest row rows' rest' front room pushed cut far =
    let put : rows' ≡ rows ++ row ∷ [] = pushed ∙ cond-true _ _ _ (lt-ltb _ _ room) in
    rw (put, cut) (record {
      made = with_front bytes rows rest row front far ∙ behind_more rows row (rows_of (drop 3 rest));
      room = omega (arith, length-append rows (row ∷ []));
    })

-- rows that a row is put behind, and others behind it, are more than they were
longer : (rows : List Row) (row : Row) (others : Option (List Row)) (all : List Row) → behind rows (before (Some row) others) ≡ Some all → length rows < length all
longer rows row None all e = let z : ◌≡◌ {A = ℕ} 0 1 = cc in absurd (omega arith)
longer rows row (Some others) all e =
    let same : rows ++ row ∷ others ≡ all = cc in
    omega (arith, ap length same, length-append rows (row ∷ others))

-- where there is none, the bytes mean more rows than there is room for
pub no_room :
    (bytes : List ℕ) (rows : List Row) (rest : List ℕ) (row : Row)
    → Front rest row
    → row_limit ≤ length rows
    → SoFar bytes rows rest
    → NoRows bytes
no_room bytes rows rest row front full far all h =
    let more = longer rows row (rows_of (drop 3 rest)) all (sym (with_front bytes rows rest row front far) ∙ h.meant) in
    omega (arith, h.room)

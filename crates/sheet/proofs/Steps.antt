-- The steps of reading a sheet, each way: what was read is spelled, and what is spelled is read.
use Rattle.std.proofs.Common.{◌≡◌, ℕ, ◌-◌, ◌<◌, ◌≤◌, Bool, true, false, cond, eqb, ltb, List, [], ◌∷◌, ◌++◌, length, sym, refl, ap, ◌∙◌, subst, arith}
use Rattle.std.proofs.lemmas.List.{length_push}
use Rattle.std.proofs.lemmas.Bool.{ltb-true, lt-ltb, eqb-true}
use Rattle.words.specs.declared.fault.Place.{Place}
use Rattle.words.specs.Numbers.{Refused}
use Rattle.words.specs.Words.{Tok, word, number, opens, closes, Reading, Out, good, bad}
use Rattle.words.proofs.Tokens.{Reads}
use Rattle.forms.specs.Forms.{WordAt, closed, named, number_in, opened, taken}
use Rattle.forms.proofs.Steps.{number_from_reads}
use Rattle.forms.proofs.Steps.{number_parts as in_range}
use Rattle.forms.proofs.Spelled.{opened_from_reads, reads_from_opened, closed_from_reads, reads_from_closed, named_from_reads, reads_from_named}
use Rattle.logic.specs.declared.row.Row.{Row}
use Rattle.words.specs.declared.token.Placed.{Placed}
use Rattle.sheet.specs.Reading.{State, Step, done, failed, then, lifted, letter_of, letter_at, number_below, bracket_at, close_at, placed}
use Rattle.sheet.specs.Grammar.{last}

-- a refusal is no value
pub failed_not_done : {A : Type 0} {e : Refused} {a : A} {t : State} → failed e ≡ done a t → ⊥
failed_not_done h = cc

pub done_value : {A : Type 0} {a b : A} {s t : State} → done a s ≡ done b t → a ≡ b
done_value h = cc

pub done_state : {A : Type 0} {a b : A} {s t : State} → done a s ≡ done b t → s ≡ t
done_state h = cc

-- the steps of two in a row
pub then_parts : {A B : Type 0} (o : Step A) (f : A → State → Step B) (b : B) (t : State) → then o f ≡ done b t → (a : A) × (s : State) × (o ≡ done a s) × (f a s ≡ done b t)
then_parts (done a s) f b t e = (a, s, refl, e)
then_parts (failed r) f b t e = cc

-- a step of the forms makes no row
pub lifted_parts : {A : Type 0} (o : Out A) (s : State) (a : A) (t : State) → lifted o s ≡ done a t → (o ≡ good a t.at) × (t.rows ≡ s.rows)
lifted_parts (good b p) s a t e =
    let v = done_value e in
    let w = done_state e in
    (ap (λ x. good x p) v ∙ ap (λ (x : State). good a x.at) w, sym (ap (λ (x : State). x.rows) w))
lifted_parts (bad r) s a t e = cc

-- a test that chose a value
pub cond_done : {A : Type 0} (t : Bool) (a b : A) (s u : State) (r : Refused) → cond t (done a s) (failed r) ≡ done b u → (t ≡ true) × (a ≡ b) × (s ≡ u)
cond_done true a b s u r e = (refl, done_value e, done_state e)
cond_done false a b s u r e = cc

-- a test of a letter
pub letter_case : {A G : Type 0} (c k : ℕ) (x y z : A) → (c ≡ k → x ≡ z → G) → (y ≡ z → G) → cond (eqb c k) x y ≡ z → G
letter_case {A = A} {G = G} c k x y z f g e = go (eqb c k) refl e
  where
    go : (b : Bool) → eqb c k ≡ b → cond b x y ≡ z → G
    go true h e = f (eqb-true c k h) e
    go false h e = g e

-- what is read from t, the token before it included, is read from s
abbrev pub Before : List Tok → State → State → Type 0
Before front s t = (ts : List Tok) → Reads t.at ts → Reads s.at (front ++ ts)

-- an opening bracket
pub bracket_parts : (s t : State) (m : Place) → bracket_at s ≡ done m t → Before (opens ∷ []) s t × (t.rows ≡ s.rows)
bracket_parts s t m e =
    let (o, same) = lifted_parts (taken opened s.at) s m t e in
    (λ ts r. reads_from_opened o r, same)

-- a letter
letter_of_parts : (w : List ℕ) (at : Place) (s t : State) (h : Placed ℕ) → letter_of w at s ≡ done h t → (w ≡ h.value ∷ []) × (s ≡ t)
letter_of_parts [] at s t h e = cc
letter_of_parts (b ∷ []) at s t h e = (ap (λ (x : Placed ℕ). x.value ∷ []) (done_value e), done_state e)
letter_of_parts (b ∷ c ∷ bs) at s t h e = cc

pub letter_parts : (s t : State) (h : Placed ℕ) → letter_at s ≡ done h t → Before (word (h.value ∷ []) ∷ []) s t × (t.rows ≡ s.rows)
letter_parts s t h e =
    let (w, u, e1, f1) = then_parts (lifted (taken named s.at) s) (λ (w : WordAt) s. letter_of w.bytes w.place s) h t e in
    let (o, same) = lifted_parts (taken named s.at) s w u e1 in
    let (is, stays) = letter_of_parts w.bytes w.place u t h f1 in
    (λ ts r. subst (λ (x : List ℕ). Reads s.at (word x ∷ ts)) is (reads_from_named o (subst (λ (x : State). Reads x.at ts) (sym stays) r)), ap (λ (x : State). x.rows) (sym stays) ∙ same)

-- a number below a limit
pub number_parts : (limit : ℕ) (s t : State) (n : ℕ) → number_below limit s ≡ done n t → (n < limit) × Before (number n ∷ []) s t × (t.rows ≡ s.rows)
number_parts limit s t n e =
    let (o, same) = lifted_parts (number_in 0 limit s.at) s n t e in
    let (_, low, reads) = in_range 0 limit o in
    (low, reads, same)

pub number_made : (limit n : ℕ) (s : State) (ts : List Tok) → n < limit → Reads s.at (number n ∷ ts) → (q : Reading) × (number_below limit s ≡ done n (record { at = q; rows = s.rows })) × Reads q ts
number_made limit n s ts low r =
    let (q, e, more) = number_from_reads 0 limit (omega arith) low r in
    (q, rw e refl, more)

-- a closing bracket, and the row that it makes
pub record Closed (row : Row) (s : State) (i : ℕ) (t : State) : Type 0 where
  pub reads : Before (closes ∷ []) s t
  pub rows : t.rows ≡ s.rows ++ row ∷ []
  pub number : i ≡ last t.rows
  pub few : length t.rows ≤ 48

pub close_parts : (row : Row) (s t : State) (i : ℕ) → close_at row s ≡ done i t → Closed row s i t
close_parts row s t i e =
    let (m, u, e1, f1) = then_parts (lifted (taken closed s.at) s) (placed row) i t e in
    let (o, same) = lifted_parts (taken closed s.at) s m u e1 in
    let (low, value, state) = cond_done (ltb (length u.rows) 48) (length u.rows) i (record { at = u.at; rows = u.rows ++ row ∷ [] }) t _ f1 in
    let at : u.at ≡ t.at = ap (λ (x : State). x.at) state in
    let rows : u.rows ++ row ∷ [] ≡ t.rows = ap (λ (x : State). x.rows) state in
    let long = length_push u.rows row in
    let longer = ap length rows in
    record {
      reads = λ ts r. reads_from_closed o (subst (λ (x : Reading). Reads x ts) (sym at) r);
      rows = sym rows ∙ ap (λ (x : List Row). x ++ row ∷ []) same;
      number = omega arith;
      few = omega (arith, ltb-true (length u.rows) 48 low);
    }

pub close_made : (row : Row) (s : State) (ts : List Tok) → length (s.rows ++ row ∷ []) ≤ 48 → Reads s.at (closes ∷ ts) → (q : Reading) × (close_at row s ≡ done (last (s.rows ++ row ∷ [])) (record { at = q; rows = s.rows ++ row ∷ [] })) × Reads q ts
close_made row s ts few r =
    let (q, at, e, more) = closed_from_reads r in
    let long = length_push s.rows row in
    let t = lt-ltb (length s.rows) 48 (omega arith) in
    let is : length s.rows ≡ length (s.rows ++ row ∷ []) - 1 = omega arith in
    (q, subst (λ (n : ℕ). close_at row s ≡ done n (record { at = q; rows = s.rows ++ row ∷ [] })) is (rw (e, t) refl), more)

-- a tree's brackets: its letter, what the letter asks for, and the closing bracket
abbrev pub brackets : (Placed ℕ → State → Step Row) → State → Step ℕ
brackets body s = then (bracket_at s) (λ m s. then (then (letter_at s) body) close_at)

-- brackets are read where they are spelled
pub brackets_made : (body : Placed ℕ → State → Step Row) (k : ℕ) (s : State) (us ts : List Tok) (rows : List Row) (row : Row) → Reads s.at (opens ∷ (word (k ∷ []) ∷ us)) → length (rows ++ row ∷ []) ≤ 48 → ((at : Place) (p : Reading) → Reads p us → (q : Reading) × (body (record { value = k; place = at }) (record { at = p; rows = s.rows }) ≡ done row (record { at = q; rows = rows })) × Reads q (closes ∷ ts)) → (q : Reading) × (brackets body s ≡ done (last (rows ++ row ∷ [])) (record { at = q; rows = rows ++ row ∷ [] })) × Reads q ts
brackets_made body k s us ts rows row r few inside =
    let (p1, m, e1, r1) = opened_from_reads r in
    let (p2, at, e2, r2) = named_from_reads r1 in
    let (p3, e3, r3) = inside at p2 r2 in
    let (p4, e4, r4) = close_made row (record { at = p3; rows = rows }) ts few r3 in
    (p4, rw (e1, e2, e3, e4) refl, r4)

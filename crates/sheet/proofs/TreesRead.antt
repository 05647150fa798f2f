-- A tree that was read is spelled, and its rows were added.
use Rattle.std.proofs.Common.{◌≡◌, ℕ, zero, suc, ◌<◌, ◌≤◌, List, [], ◌∷◌, ◌++◌, length, sym, refl, ap, ◌∙◌, subst, append_assoc, arith}
use Rattle.words.specs.Words.{Tok, word, number, opens, closes}
use Rattle.words.proofs.Tokens.{Reads}
use Rattle.logic.specs.Trees.{Formula, Program, never, flag, negation, both, either, implies, box, diamond, command, sequence, choice, repetition, converse, test}
use Rattle.logic.specs.declared.row.Row.{Row}
use Rattle.logic.specs.declared.row.Row.TheVariants.{Never, Flag, Not, Both, Either, Implies, Box, Diamond, Command, Sequence, Choice, Repetition, Converse, Test}
use Rattle.words.specs.declared.token.Placed.{Placed}
use Rattle.sheet.specs.Reading.{State, Step, done, then, number_below, bracket_at, letter_at, close_at, one, two, formula_row, program_row, formula_inside, program_inside, formula_at, program_at}
use Rattle.sheet.specs.Grammar.{last, over_one, over_two, with_formula, with_program, formula_tokens, program_tokens, formula_depth, program_depth, FormulaFits, ProgramFits}
use Rattle.sheet.proofs.Steps.{failed_not_done, done_value, done_state, then_parts, letter_case, Before, bracket_parts, letter_parts, number_parts, close_parts, brackets}
use Rattle.graph.specs.Meaning.{command_limit, flag_limit}

-- formulas or programs
record Sort : Type 1 where
  Tree : Type 0
  tokens : Tree → List Tok
  adds : Tree → List Row → List Row
  Fits : ℕ → Tree → Type 0

abbrev formulas : Sort
formulas = record { Tree = Formula; tokens = formula_tokens; adds = with_formula; Fits = λ d x. (formula_depth x ≤ d) × FormulaFits x }

abbrev programs : Sort
programs = record { Tree = Program; tokens = program_tokens; adds = with_program; Fits = λ d x. (program_depth x ≤ d) × ProgramFits x }

-- a tree was read between two states
record Found (S : Sort) (d : ℕ) (s : State) (i : ℕ) (t : State) : Type 0 where
  tree : S.Tree
  fits : S.Fits d tree
  reads : Before (S.tokens tree) s t
  rows : t.rows ≡ S.adds tree s.rows
  number : i ≡ last t.rows
  few : length t.rows ≤ 48

-- so it is by a reader
abbrev Finds : Sort → ℕ → (State → Step ℕ) → Type 0
Finds S d f = (s t : State) (i : ℕ) → f s ≡ done i t → Found S d s i t

-- what follows a tree's letter was read, and makes this row
record Inside (S : Sort) (d k : ℕ) (s u : State) (row : Row) : Type 0 where
  tree : S.Tree
  fits : S.Fits d tree
  reads : (ts : List Tok) → Reads u.at (closes ∷ ts) → (us : List Tok) × (opens ∷ (word (k ∷ []) ∷ us) ≡ S.tokens tree ++ ts) × Reads s.at us
  rows : u.rows ++ row ∷ [] ≡ S.adds tree s.rows

brackets_found : (S : Sort) (d : ℕ) (body : Placed ℕ → State → Step Row) → ((h : Placed ℕ) (s u : State) (row : Row) → body h s ≡ done row u → Inside S d h.value s u row) → Finds S d (brackets body)
brackets_found S d body each s t i e =
    let (m, a, e1, f1) = then_parts (bracket_at s) (λ m s. then (then (letter_at s) body) close_at) i t e in
    let (row, u, e2, f2) = then_parts (then (letter_at a) body) close_at i t f1 in
    let (h, b, e3, f3) = then_parts (letter_at a) body row u e2 in
    let (op, ra) = bracket_parts s a m e1 in
    let (le, rb) = letter_parts a b h e3 in
    let cl = close_parts row u t i f2 in
    let x = each h b u row f3 in
    record {
      tree = x.tree;
      fits = x.fits;
      reads = λ ts r.
          let (us, is, inside) = x.reads ts (cl.reads ts r) in
          subst (Reads s.at) is (op (word (h.value ∷ []) ∷ us) (le us inside));
      rows = cl.rows ∙ x.rows ∙ ap (S.adds x.tree) (rb ∙ ra);
      number = cl.number;
      few = cl.few;
    }

-- a row without parts
leaf_found : (S : Sort) (d k : ℕ) (tree : S.Tree) (row : Row) → S.Fits d tree → (opens ∷ (word (k ∷ []) ∷ (closes ∷ [])) ≡ S.tokens tree) → ((rows : List Row) → rows ++ row ∷ [] ≡ S.adds tree rows) → (s u : State) (made : Row) → done row s ≡ done made u → Inside S d k s u made
leaf_found S d k tree row fits spelled rows s u made e =
    let state = done_state e in
    record {
      tree = tree;
      fits = fits;
      reads = λ ts r. (closes ∷ ts, ap (λ (x : List Tok). x ++ ts) spelled, subst (λ (x : State). Reads x.at (closes ∷ ts)) (sym state) r);
      rows = ap (λ (x : State). x.rows ++ made ∷ []) (sym state) ∙ ap (λ (x : Row). s.rows ++ x ∷ []) (sym (done_value e)) ∙ rows s.rows;
    }

-- a row with a number
counted_found : (S : Sort) (d k limit : ℕ) (tree : ℕ → S.Tree) (row : ℕ → Row) → ((n : ℕ) → n < limit → S.Fits d (tree n)) → ((n : ℕ) → opens ∷ (word (k ∷ []) ∷ (number n ∷ (closes ∷ []))) ≡ S.tokens (tree n)) → ((n : ℕ) (rows : List Row) → rows ++ row n ∷ [] ≡ S.adds (tree n) rows) → (s u : State) (made : Row) → one (number_below limit) row s ≡ done made u → Inside S d k s u made
counted_found S d k limit tree row fits spelled rows s u made e =
    let (n, v, e1, f1) = then_parts (number_below limit s) (λ x s. done (row x) s) made u e in
    let (low, before, same) = number_parts limit s v n e1 in
    let state = done_state f1 in
    record {
      tree = tree n;
      fits = fits n low;
      reads = λ ts r. (number n ∷ (closes ∷ ts), ap (λ (x : List Tok). x ++ ts) (spelled n), before (closes ∷ ts) (subst (λ (x : State). Reads x.at (closes ∷ ts)) (sym state) r));
      rows = ap (λ (x : State). x.rows ++ made ∷ []) (sym state) ∙ ap (λ (x : Row). v.rows ++ x ∷ []) (sym (done_value f1)) ∙ ap (λ (x : List Row). x ++ row n ∷ []) same ∙ rows n s.rows;
    }

-- a row with one part
one_found : (A S : Sort) (d k : ℕ) (f : State → Step ℕ) (tree : A.Tree → S.Tree) (row : ℕ → Row) → Finds A d f → ((x : A.Tree) → A.Fits d x → S.Fits (suc d) (tree x)) → ((x : A.Tree) → opens ∷ (word (k ∷ []) ∷ (A.tokens x ++ closes ∷ [])) ≡ S.tokens (tree x)) → ((x : A.Tree) (rows : List Row) → over_one row (A.adds x rows) ≡ S.adds (tree x) rows) → (s u : State) (made : Row) → one f row s ≡ done made u → Inside S (suc d) k s u made
one_found A S d k f tree row finds fits spelled rows s u made e =
    let (n, v, e1, f1) = then_parts (f s) (λ x s. done (row x) s) made u e in
    let x = finds s v n e1 in
    let state = done_state f1 in
    record {
      tree = tree x.tree;
      fits = fits x.tree x.fits;
      reads = λ ts r. (
        A.tokens x.tree ++ closes ∷ ts,
        ap (λ (z : List Tok). opens ∷ (word (k ∷ []) ∷ z)) (sym (append_assoc (A.tokens x.tree) (closes ∷ []) ts)) ∙ ap (λ (z : List Tok). z ++ ts) (spelled x.tree),
        x.reads (closes ∷ ts) (subst (λ (z : State). Reads z.at (closes ∷ ts)) (sym state) r),
      );
      rows =
          ap (λ (z : State). z.rows ++ made ∷ []) (sym state)
          ∙ ap (λ (z : Row). v.rows ++ z ∷ []) (sym (done_value f1))
          ∙ ap (λ (z : ℕ). v.rows ++ row z ∷ []) x.number
          ∙ ap (over_one row) x.rows
          ∙ rows x.tree s.rows;
    }

-- a row with two parts
two_found : (A B S : Sort) (d k : ℕ) (f g : State → Step ℕ) (tree : A.Tree → B.Tree → S.Tree) (row : ℕ → ℕ → Row) → Finds A d f → Finds B d g → ((x : A.Tree) (y : B.Tree) → A.Fits d x → B.Fits d y → S.Fits (suc d) (tree x y)) → ((x : A.Tree) (y : B.Tree) → opens ∷ (word (k ∷ []) ∷ (A.tokens x ++ (B.tokens y ++ closes ∷ []))) ≡ S.tokens (tree x y)) → ((x : A.Tree) (y : B.Tree) (rows : List Row) → over_two row (A.adds x rows) (B.adds y) ≡ S.adds (tree x y) rows) → (s u : State) (made : Row) → two f g row s ≡ done made u → Inside S (suc d) k s u made
two_found A B S d k f g tree row finds more fits spelled rows s u made e =
    let (n, v, e1, f1) = then_parts (f s) (λ x s. then (g s) (λ y s. done (row x y) s)) made u e in
    let (l, w, e2, f2) = then_parts (g v) (λ y s. done (row n y) s) made u f1 in
    let x = finds s v n e1 in
    let y = more v w l e2 in
    let state = done_state f2 in
    let a = A.tokens x.tree in
    let b = B.tokens y.tree in
    record {
      tree = tree x.tree y.tree;
      fits = fits x.tree y.tree x.fits y.fits;
      reads = λ ts r. (
        a ++ (b ++ closes ∷ ts),
        ap (λ (z : List Tok). opens ∷ (word (k ∷ []) ∷ z)) (ap (λ (z : List Tok). a ++ z) (sym (append_assoc b (closes ∷ []) ts)) ∙ sym (append_assoc a (b ++ closes ∷ []) ts)) ∙ ap (λ (z : List Tok). z ++ ts) (spelled x.tree y.tree),
        x.reads (b ++ closes ∷ ts) (y.reads (closes ∷ ts) (subst (λ (z : State). Reads z.at (closes ∷ ts)) (sym state) r)),
      );
      rows =
          ap (λ (z : State). z.rows ++ made ∷ []) (sym state)
          ∙ ap (λ (z : Row). w.rows ++ z ∷ []) (sym (done_value f2))
          ∙ ap (λ (z : ℕ). w.rows ++ row z l ∷ []) x.number
          ∙ ap (λ (z : ℕ). w.rows ++ row (last v.rows) z ∷ []) y.number
          ∙ ap (λ (z : List Row). z ++ row (last v.rows) (last z) ∷ []) y.rows
          ∙ ap (λ (z : List Row). over_two row z (B.adds y.tree)) x.rows
          ∙ rows x.tree y.tree s.rows;
    }

module _ (d : ℕ) (f g : State → Step ℕ) (finds : Finds formulas d f) (finds_program : Finds programs d g) (h : Placed ℕ) (s u : State) (row : Row) where
  -- by the letter that was read
  by : (S : Sort) (k : ℕ) → h.value ≡ k → Inside S (suc d) k s u row → Inside S (suc d) h.value s u row
  by S k e = subst (λ (n : ℕ). Inside S (suc d) n s u row) (sym e)

  formula_letters : formula_row f g h s ≡ done row u → Inside formulas (suc d) h.value s u row
  formula_letters =
      letter_case h.value 79 _ _ _ (λ l e. by formulas 79 l (leaf_found formulas (suc d) 79 never Never (omega arith, tt) refl (λ rows. refl) s u row e)) (
      letter_case h.value 80 _ _ _ (λ l e. by formulas 80 l (counted_found formulas (suc d) 80 flag_limit flag Flag (λ n low. (omega arith, low)) (λ n. refl) (λ n rows. refl) s u row e)) (
      letter_case h.value 78 _ _ _ (λ l e. by formulas 78 l (one_found formulas formulas d 78 f negation Not finds (λ x p. (omega arith, p.1)) (λ x. refl) (λ x rows. refl) s u row e)) (
      letter_case h.value 75 _ _ _ (λ l e. by formulas 75 l (two_found formulas formulas formulas d 75 f f both Both finds finds (λ x y p q. (omega arith, (p.1, q.1))) (λ x y. refl) (λ x y rows. refl) s u row e)) (
      letter_case h.value 65 _ _ _ (λ l e. by formulas 65 l (two_found formulas formulas formulas d 65 f f either Either finds finds (λ x y p q. (omega arith, (p.1, q.1))) (λ x y. refl) (λ x y rows. refl) s u row e)) (
      letter_case h.value 67 _ _ _ (λ l e. by formulas 67 l (two_found formulas formulas formulas d 67 f f implies Implies finds finds (λ x y p q. (omega arith, (p.1, q.1))) (λ x y. refl) (λ x y rows. refl) s u row e)) (
      letter_case h.value 76 _ _ _ (λ l e. by formulas 76 l (two_found programs formulas formulas d 76 g f box Box finds_program finds (λ x y p q. (omega arith, (p.1, q.1))) (λ x y. refl) (λ x y rows. refl) s u row e)) (
      letter_case h.value 77 _ _ _ (λ l e. by formulas 77 l (two_found programs formulas formulas d 77 g f diamond Diamond finds_program finds (λ x y p q. (omega arith, (p.1, q.1))) (λ x y. refl) (λ x y rows. refl) s u row e)) (
      λ e. cc))))))))

  program_letters : program_row f g h s ≡ done row u → Inside programs (suc d) h.value s u row
  program_letters =
      letter_case h.value 100 _ _ _ (λ l e. by programs 100 l (counted_found programs (suc d) 100 command_limit command Command (λ n low. (omega arith, low)) (λ n. refl) (λ n rows. refl) s u row e)) (
      letter_case h.value 115 _ _ _ (λ l e. by programs 115 l (two_found programs programs programs d 115 g g sequence Sequence finds_program finds_program (λ x y p q. (omega arith, (p.1, q.1))) (λ x y. refl) (λ x y rows. refl) s u row e)) (
      letter_case h.value 117 _ _ _ (λ l e. by programs 117 l (two_found programs programs programs d 117 g g choice Choice finds_program finds_program (λ x y p q. (omega arith, (p.1, q.1))) (λ x y. refl) (λ x y rows. refl) s u row e)) (
      letter_case h.value 114 _ _ _ (λ l e. by programs 114 l (one_found programs programs d 114 g repetition Repetition finds_program (λ x p. (omega arith, p.1)) (λ x. refl) (λ x rows. refl) s u row e)) (
      letter_case h.value 98 _ _ _ (λ l e. by programs 98 l (one_found programs programs d 98 g converse Converse finds_program (λ x p. (omega arith, p.1)) (λ x. refl) (λ x rows. refl) s u row e)) (
      letter_case h.value 116 _ _ _ (λ l e. by programs 116 l (one_found formulas programs d 116 f test Test finds (λ x p. (omega arith, p.1)) (λ x. refl) (λ x rows. refl) s u row e)) (
      λ e. cc))))))

-- with no bracket left none is opened
none_left : {A : Type 0} (o : Step A) (i : ℕ) (t : State) (f : A → State → Step ℕ) → ((a : A) (s : State) → f a s ≡ done i t → ⊥) → then o f ≡ done i t → ⊥
none_left o i t f none e = let (a, s, e1, f1) = then_parts o f i t e in none a s f1

mutual
  formula_found : (d : ℕ) → Finds formulas d (formula_at d)
  formula_found zero s t i e = absurd (none_left (bracket_at s) i t (formula_inside zero) (λ a s f. failed_not_done f) e)
  formula_found (suc d) s t i e = brackets_found formulas (suc d) (formula_row (formula_at d) (program_at d)) (formula_letters d (formula_at d) (program_at d) (formula_found d) (program_found d)) s t i e

  program_found : (d : ℕ) → Finds programs d (program_at d)
  program_found zero s t i e = absurd (none_left (bracket_at s) i t (program_inside zero) (λ a s f. failed_not_done f) e)
  program_found (suc d) s t i e = brackets_found programs (suc d) (program_row (formula_at d) (program_at d)) (program_letters d (formula_at d) (program_at d) (formula_found d) (program_found d)) s t i e

-- a formula that was read between two states
pub record FormulaRead (d : ℕ) (s : State) (i : ℕ) (t : State) : Type 0 where
  pub formula : Formula
  pub depth : formula_depth formula ≤ d
  pub fits : FormulaFits formula
  pub reads : Before (formula_tokens formula) s t
  pub rows : t.rows ≡ with_formula formula s.rows
  pub number : i ≡ last t.rows
  pub few : length t.rows ≤ 48

pub formula_read : (d : ℕ) (s t : State) (i : ℕ) → formula_at d s ≡ done i t → FormulaRead d s i t
formula_read d s t i e =
    let x = formula_found d s t i e in
    record { formula = x.tree; depth = x.fits.0; fits = x.fits.1; reads = x.reads; rows = x.rows; number = x.number; few = x.few }

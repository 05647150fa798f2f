-- A tree that is spelled is read, and its rows are added.
use Rattle.std.proofs.Common.{◌≡◌, ℕ, zero, suc, ◌<◌, ◌≤◌, List, [], ◌∷◌, ◌++◌, length, refl, ap, ◌∙◌, subst, append_assoc, arith}
use Rattle.std.proofs.lemmas.List.{length_push}
use Rattle.words.specs.declared.fault.Place.{Place}
use Rattle.words.specs.Words.{Tok, word, number, opens, closes, Reading}
use Rattle.words.proofs.Tokens.{Reads}
use Rattle.logic.specs.Trees.{Formula, Program, never, flag, negation, both, either, implies, box, diamond, command, sequence, choice, repetition, converse, test}
use Rattle.logic.specs.declared.row.Row.{Row}
use Rattle.logic.specs.declared.row.Row.TheVariants.{Never, Flag, Not, Both, Either, Implies, Box, Diamond, Command, Sequence, Choice, Repetition, Converse, Test}
use Rattle.words.specs.declared.token.Placed.{Placed}
use Rattle.sheet.specs.Reading.{State, Step, done, then, number_below, one, two, formula_row, program_row, formula_at, program_at}
use Rattle.sheet.specs.Grammar.{last, over_one, over_two, with_formula, with_program, formula_tokens, program_tokens, formula_depth, program_depth, FormulaFits, ProgramFits}
use Rattle.sheet.proofs.Added.{formula_behind, program_behind, behind_longer}
use Rattle.sheet.proofs.Steps.{number_made, brackets, brackets_made}
use Rattle.graph.specs.Meaning.{command_limit, flag_limit}

-- where these tokens stand before others, f reads them, adds rows to those that there are, and names the last row
abbrev pub Made : (State → Step ℕ) → List Tok → (List Row → List Row) → List Tok → Type 0
Made f front adds ts = (s : State) → Reads s.at (front ++ ts) → length (adds s.rows) ≤ 48 → (q : Reading) × (f s ≡ done (last (adds s.rows)) (record { at = q; rows = adds s.rows })) × Reads q ts

module _ (body : Placed ℕ → State → Step Row) (k : ℕ) (ts : List Tok) where
  -- a row without parts
  leaf_made : (row : Row) → ((at : Place) (s : State) → body (record { value = k; place = at }) s ≡ done row s) → Made (brackets body) (opens ∷ (word (k ∷ []) ∷ (closes ∷ []))) (λ rows. rows ++ row ∷ []) ts
  leaf_made row is s r few = brackets_made body k s (closes ∷ ts) ts s.rows row r few (λ at p inside. (p, is at (record { at = p; rows = s.rows }), inside))

  -- a row with a number
  counted_made : (limit n : ℕ) (row : ℕ → Row) → n < limit → ((at : Place) (s : State) → body (record { value = k; place = at }) s ≡ one (number_below limit) row s) → Made (brackets body) (opens ∷ (word (k ∷ []) ∷ (number n ∷ (closes ∷ [])))) (λ rows. rows ++ row n ∷ []) ts
  counted_made limit n row low is s r few = brackets_made body k s (number n ∷ (closes ∷ ts)) ts s.rows (row n) r few (λ at p inside.
      let (q, e, more) = number_made limit n (record { at = p; rows = s.rows }) (closes ∷ ts) low inside in
      (q, is at (record { at = p; rows = s.rows }) ∙ ap (λ (o : Step ℕ). then o (λ x s. done (row x) s)) e, more))

  -- a row with one part
  one_made : (f : State → Step ℕ) (front : List Tok) (adds : List Row → List Row) (row : ℕ → Row) → ((at : Place) (s : State) → body (record { value = k; place = at }) s ≡ one f row s) → Made f front adds (closes ∷ ts) → Made (brackets body) (opens ∷ (word (k ∷ []) ∷ (front ++ closes ∷ []))) (λ rows. over_one row (adds rows)) ts
  one_made f front adds row is part s r few = brackets_made body k s ((front ++ closes ∷ []) ++ ts) ts (adds s.rows) (row (last (adds s.rows))) r few (λ at p inside.
      let long = length_push (adds s.rows) (row (last (adds s.rows))) in
      let (q, e, more) = part (record { at = p; rows = s.rows }) (subst (Reads p) (append_assoc front (closes ∷ []) ts) inside) (omega arith) in
      (q, is at (record { at = p; rows = s.rows }) ∙ ap (λ (o : Step ℕ). then o (λ x s. done (row x) s)) e, more))

  -- a row with two parts
  two_made : (f g : State → Step ℕ) (front next : List Tok) (adds more : List Row → List Row) (row : ℕ → ℕ → Row) → ((at : Place) (s : State) → body (record { value = k; place = at }) s ≡ two f g row s) → ((rows : List Row) → length rows ≤ length (more rows)) → Made f front adds (next ++ closes ∷ ts) → Made g next more (closes ∷ ts) → Made (brackets body) (opens ∷ (word (k ∷ []) ∷ (front ++ (next ++ closes ∷ [])))) (λ rows. over_two row (adds rows) more) ts
  two_made f g front next adds more row is longer first second s r few =
      let a = adds s.rows in
      let b = more a in
      let long = length_push b (row (last a) (last b)) in
      let grown = longer a in
      let joined : (front ++ (next ++ closes ∷ [])) ++ ts ≡ front ++ (next ++ closes ∷ ts) = append_assoc front (next ++ closes ∷ []) ts ∙ ap (λ (x : List Tok). front ++ x) (append_assoc next (closes ∷ []) ts) in
      brackets_made body k s ((front ++ (next ++ closes ∷ [])) ++ ts) ts b (row (last a) (last b)) r few (λ at p inside.
      let (q, e, r1) = first (record { at = p; rows = s.rows }) (subst (Reads p) joined inside) (omega arith) in
      let (t, e2, r2) = second (record { at = q; rows = a }) r1 (omega arith) in
      (t, is at (record { at = p; rows = s.rows }) ∙ ap (λ (o : Step ℕ). then o (λ x s. then (g s) (λ y s. done (row x y) s))) e ∙ ap (λ (o : Step ℕ). then o (λ y s. done (row (last a) y) s)) e2, r2))

-- a tree has a bracket
formula_some : (x : Formula) → 1 ≤ formula_depth x
formula_some never = omega arith
formula_some (flag p) = omega arith
formula_some (negation x) = omega arith
formula_some (both x y) = omega arith
formula_some (either x y) = omega arith
formula_some (implies x y) = omega arith
formula_some (box x y) = omega arith
formula_some (diamond x y) = omega arith

program_some : (r : Program) → 1 ≤ program_depth r
program_some (command p) = omega arith
program_some (sequence x y) = omega arith
program_some (choice x y) = omega arith
program_some (repetition x) = omega arith
program_some (converse x) = omega arith
program_some (test x) = omega arith

mutual
  pub formula_made : (d : ℕ) (x : Formula) (ts : List Tok) → formula_depth x ≤ d → FormulaFits x → Made (formula_at d) (formula_tokens x) (with_formula x) ts
  formula_made zero x ts deep fits = absurd (omega (arith, formula_some x))
  formula_made (suc d) never ts deep fits = leaf_made (formula_row (formula_at d) (program_at d)) 79 ts Never (λ at s. refl)
  formula_made (suc d) (flag n) ts deep fits = counted_made (formula_row (formula_at d) (program_at d)) 80 ts flag_limit n Flag fits (λ at s. refl)
  formula_made (suc d) (negation x) ts deep fits = one_made (formula_row (formula_at d) (program_at d)) 78 ts (formula_at d) (formula_tokens x) (with_formula x) Not (λ at s. refl) (formula_made d x (closes ∷ ts) (omega arith) fits)
  formula_made (suc d) (both x y) ts deep fits = two_made (formula_row (formula_at d) (program_at d)) 75 ts (formula_at d) (formula_at d) (formula_tokens x) (formula_tokens y) (with_formula x) (with_formula y) Both (λ at s. refl) (λ rows. behind_longer rows (with_formula y rows) (formula_behind y rows)) (formula_made d x (formula_tokens y ++ closes ∷ ts) (omega arith) fits.0) (formula_made d y (closes ∷ ts) (omega arith) fits.1)
  formula_made (suc d) (either x y) ts deep fits = two_made (formula_row (formula_at d) (program_at d)) 65 ts (formula_at d) (formula_at d) (formula_tokens x) (formula_tokens y) (with_formula x) (with_formula y) Either (λ at s. refl) (λ rows. behind_longer rows (with_formula y rows) (formula_behind y rows)) (formula_made d x (formula_tokens y ++ closes ∷ ts) (omega arith) fits.0) (formula_made d y (closes ∷ ts) (omega arith) fits.1)
  formula_made (suc d) (implies x y) ts deep fits = two_made (formula_row (formula_at d) (program_at d)) 67 ts (formula_at d) (formula_at d) (formula_tokens x) (formula_tokens y) (with_formula x) (with_formula y) Implies (λ at s. refl) (λ rows. behind_longer rows (with_formula y rows) (formula_behind y rows)) (formula_made d x (formula_tokens y ++ closes ∷ ts) (omega arith) fits.0) (formula_made d y (closes ∷ ts) (omega arith) fits.1)
  formula_made (suc d) (box x y) ts deep fits = two_made (formula_row (formula_at d) (program_at d)) 76 ts (program_at d) (formula_at d) (program_tokens x) (formula_tokens y) (with_program x) (with_formula y) Box (λ at s. refl) (λ rows. behind_longer rows (with_formula y rows) (formula_behind y rows)) (program_made d x (formula_tokens y ++ closes ∷ ts) (omega arith) fits.0) (formula_made d y (closes ∷ ts) (omega arith) fits.1)
  formula_made (suc d) (diamond x y) ts deep fits = two_made (formula_row (formula_at d) (program_at d)) 77 ts (program_at d) (formula_at d) (program_tokens x) (formula_tokens y) (with_program x) (with_formula y) Diamond (λ at s. refl) (λ rows. behind_longer rows (with_formula y rows) (formula_behind y rows)) (program_made d x (formula_tokens y ++ closes ∷ ts) (omega arith) fits.0) (formula_made d y (closes ∷ ts) (omega arith) fits.1)

  pub program_made : (d : ℕ) (x : Program) (ts : List Tok) → program_depth x ≤ d → ProgramFits x → Made (program_at d) (program_tokens x) (with_program x) ts
  program_made zero x ts deep fits = absurd (omega (arith, program_some x))
  program_made (suc d) (command n) ts deep fits = counted_made (program_row (formula_at d) (program_at d)) 100 ts command_limit n Command fits (λ at s. refl)
  program_made (suc d) (sequence x y) ts deep fits = two_made (program_row (formula_at d) (program_at d)) 115 ts (program_at d) (program_at d) (program_tokens x) (program_tokens y) (with_program x) (with_program y) Sequence (λ at s. refl) (λ rows. behind_longer rows (with_program y rows) (program_behind y rows)) (program_made d x (program_tokens y ++ closes ∷ ts) (omega arith) fits.0) (program_made d y (closes ∷ ts) (omega arith) fits.1)
  program_made (suc d) (choice x y) ts deep fits = two_made (program_row (formula_at d) (program_at d)) 117 ts (program_at d) (program_at d) (program_tokens x) (program_tokens y) (with_program x) (with_program y) Choice (λ at s. refl) (λ rows. behind_longer rows (with_program y rows) (program_behind y rows)) (program_made d x (program_tokens y ++ closes ∷ ts) (omega arith) fits.0) (program_made d y (closes ∷ ts) (omega arith) fits.1)
  program_made (suc d) (repetition x) ts deep fits = one_made (program_row (formula_at d) (program_at d)) 114 ts (program_at d) (program_tokens x) (with_program x) Repetition (λ at s. refl) (program_made d x (closes ∷ ts) (omega arith) fits)
  program_made (suc d) (converse x) ts deep fits = one_made (program_row (formula_at d) (program_at d)) 98 ts (program_at d) (program_tokens x) (with_program x) Converse (λ at s. refl) (program_made d x (closes ∷ ts) (omega arith) fits)
  program_made (suc d) (test x) ts deep fits = one_made (program_row (formula_at d) (program_at d)) 116 ts (formula_at d) (formula_tokens x) (with_formula x) Test (λ at s. refl) (formula_made d x (closes ∷ ts) (omega arith) fits)

-- A claim sheet, read step by step.
use Rattle.std.specs.Prelude.{◌≡◌, ℕ, zero, suc, ◌-◌, ◌<◌, ◌≤◌, cond, List, [], ◌∷◌, ◌++◌, length, Some, None, Ok, Err, codes, Option, Result, ◌==◌, nat_lt}
use Rattle.std.specs.Str.{bytes_eq}
use Rattle.graph.specs.Meaning.{mode_limit, command_limit, flag_limit}
use Rattle.words.specs.declared.fault.Fault.{Fault}
use Rattle.words.specs.declared.fault.Place.{Place}
use Rattle.words.specs.declared.token.Placed.{Placed}
use Rattle.words.specs.Numbers.{Refused, refused, before_text}
use Rattle.words.specs.Words.{Reading, Out, good, bad, here, left, start, text_limit}
use Rattle.forms.specs.declared.form.Next.{Next}
use Rattle.forms.specs.declared.form.Next.TheVariants.{Form, End}
use Rattle.forms.specs.Forms.{ItemAt, item_name, item_number, closed, form_end, form_reading, itemized, named, next_form, number_in, opened, taken}
use Rattle.logic.specs.declared.row.Claim.{Claim}
use Rattle.logic.specs.declared.row.Row.{Row}
use Rattle.logic.specs.declared.row.Row.TheVariants.{Never, Flag, Not, Both, Either, Implies, Box, Diamond, Command, Sequence, Choice, Repetition, Converse, Test}
use Rattle.logic.specs.declared.row.Scope.{Scope}
use Rattle.logic.specs.declared.row.Scope.TheVariants.{All, Mode}
use Rattle.logic.specs.declared.sheet.Sheet.{Sheet}
use Rattle.logic.specs.Sheets.{row_limit, claim_fits, claims_with, sheet_rows, sheet_claims}
use Rattle.sheet.specs.declared.reader.Reader.{Reader}

-- how far the text has been read, and the rows that were made so far
pub record State : Type 0 where
  pub at : Reading
  pub rows : List Row

abbrev pub state : Reader → State
state r = record { at = form_reading r.forms; rows = sheet_rows r.sheet.now }

abbrev pub reader_claims : Reader → List Claim
reader_claims r = sheet_claims r.sheet.now

-- a step inside a claim: the sheet is the same and has the same claims, and no byte comes back
pub record Moves (before after : Reader) : Type 0 where
  pub same_sheet : after.sheet.ghost_name ≡ before.sheet.ghost_name
  pub claims : reader_claims after ≡ reader_claims before
  pub shorter : left after.forms.words ≤ left before.forms.words

-- what a step gives: a value and the state after it, or a refusal
pub data Step (A : Type 0) : Type 0 where
  done : A → State → Step A
  failed : Refused → Step A

abbrev pub stepped : {A : Type 0} → Result A Fault → State → Step A
stepped (Ok a) s = done a s
stepped (Err e) s = failed (refused e)

-- a step, and another one from there
abbrev pub then : {A B : Type 0} → Step A → (A → State → Step B) → Step B
then (done a s) f = f a s
then (failed e) f = failed e

-- a step of the forms, which makes no row
abbrev pub lifted : {A : Type 0} → Out A → State → Step A
lifted (good a p) s = done a (record { at = p; rows = s.rows })
lifted (bad e) s = failed e

-- a refusal at a place: by the forms, and by the limits
abbrev pub refused_form : {A : Type 0} → ℕ → Place → State → Step A
refused_form number at s = failed (record { number = number; text = s.at.text; layer = 2; place = at })

abbrev pub refused_limit : {A : Type 0} → ℕ → Place → State → Step A
refused_limit number at s = failed (record { number = number; text = s.at.text; layer = 3; place = at })

-- a word of one letter
abbrev pub letter_of : List ℕ → Place → State → Step (Placed ℕ)
letter_of [] at s = refused_form 4 at s
letter_of (b ∷ []) at s = done (record { value = b; place = at }) s
letter_of (b ∷ c ∷ bs) at s = refused_form 4 at s

abbrev pub letter_at : State → Step (Placed ℕ)
letter_at s = then (lifted (taken named s.at) s) (λ w s. letter_of w.bytes w.place s)

-- a number below a limit
abbrev pub number_below : ℕ → State → Step ℕ
number_below limit s = lifted (number_in 0 limit s.at) s

-- an opening bracket of a row
abbrev pub bracket_at : State → Step Place
bracket_at s = lifted (taken opened s.at) s

-- an opening bracket of a row, and how many may be opened inside it
abbrev pub open_at : ℕ → State → Step ℕ
open_at d s = then (bracket_at s) (λ at s. cond (d == 0) (refused_form 5 at s) (done (d - 1) s))

-- the closing bracket of a row, which is then numbered
abbrev pub placed : Row → Place → State → Step ℕ
placed row at s = cond (nat_lt (length s.rows) row_limit) (done (length s.rows) (record { at = s.at; rows = s.rows ++ row ∷ [] })) (refused_limit 8 at s)

abbrev pub close_at : Row → State → Step ℕ
close_at row s = then (lifted (taken closed s.at) s) (placed row)

-- a row with one part, and with two, each read by its own reader
abbrev pub one : (State → Step ℕ) → (ℕ → Row) → State → Step Row
one f row s = then (f s) (λ x s. done (row x) s)

abbrev pub two : (State → Step ℕ) → (State → Step ℕ) → (ℕ → ℕ → Row) → State → Step Row
two f g row s = then (f s) (λ x s. then (g s) (λ y s. done (row x y) s))

-- a formula's row by its letter, with the readers of its parts: f reads formulas, g programs
abbrev pub formula_row : (State → Step ℕ) → (State → Step ℕ) → Placed ℕ → State → Step Row
formula_row f g h s =
    cond (h.value == 79) (done Never s)
    (cond (h.value == 80) (one (number_below flag_limit) Flag s)
    (cond (h.value == 78) (one f Not s)
    (cond (h.value == 75) (two f f Both s)
    (cond (h.value == 65) (two f f Either s)
    (cond (h.value == 67) (two f f Implies s)
    (cond (h.value == 76) (two g f Box s)
    (cond (h.value == 77) (two g f Diamond s)
    (refused_form 4 h.place s))))))))

abbrev pub program_row : (State → Step ℕ) → (State → Step ℕ) → Placed ℕ → State → Step Row
program_row f g h s =
    cond (h.value == 100) (one (number_below command_limit) Command s)
    (cond (h.value == 115) (two g g Sequence s)
    (cond (h.value == 117) (two g g Choice s)
    (cond (h.value == 114) (one g Repetition s)
    (cond (h.value == 98) (one g Converse s)
    (cond (h.value == 116) (one f Test s)
    (refused_form 4 h.place s))))))

-- what follows a bracket, where so many brackets may still be opened, that one included
abbrev mutual
  pub formula_inside : ℕ → Place → State → Step ℕ
  formula_inside zero at s = refused_form 5 at s
  formula_inside (suc d) at s = then (then (letter_at s) (formula_row (λ s. then (bracket_at s) (formula_inside d)) (λ s. then (bracket_at s) (program_inside d)))) close_at

  pub program_inside : ℕ → Place → State → Step ℕ
  program_inside zero at s = refused_form 5 at s
  program_inside (suc d) at s = then (then (letter_at s) (program_row (λ s. then (bracket_at s) (formula_inside d)) (λ s. then (bracket_at s) (program_inside d)))) close_at

abbrev pub formula_at : ℕ → State → Step ℕ
formula_at d s = then (bracket_at s) (formula_inside d)

abbrev pub program_at : ℕ → State → Step ℕ
program_at d s = then (bracket_at s) (program_inside d)

abbrev pub formula_row_at : ℕ → State → Step Row
formula_row_at d s = then (letter_at s) (formula_row (formula_at d) (program_at d))

abbrev pub program_row_at : ℕ → State → Step Row
program_row_at d s = then (letter_at s) (program_row (formula_at d) (program_at d))

-- the greatest number of row brackets that may be open at once
abbrev pub depth_limit : ℕ
depth_limit = 16

-- the word of a claim's line, where there is room for one more claim than these
abbrev pub claim_word : List Claim → State → Step (Unit {0})
claim_word claims s =
    then (lifted (taken named s.at) s) (λ w s.
    cond (bytes_eq w.bytes (codes "claim"))
    (cond (claim_fits claims) (done tt s) (refused_limit 8 w.place s))
    (refused_form 4 w.place s))

-- the modes that a claim names
abbrev pub scope_of : ItemAt → State → Step Scope
scope_of (item_name w) s = cond (bytes_eq w.bytes (codes "all")) (done All s) (refused_form 4 w.place s)
scope_of (item_number n) s = cond (nat_lt n.value mode_limit) (done (Mode n.value) s) (refused_limit 7 n.place s)

abbrev pub scope_at : State → Step Scope
scope_at s = then (lifted (taken itemized s.at) s) scope_of

-- a claim, after its bracket
abbrev pub claim_form : List Claim → State → Step Claim
claim_form claims s =
    then (claim_word claims s) (λ _ s. then (scope_at s) (λ scope s. then (formula_at depth_limit s) (λ row s. then (lifted (form_end s.at) s) (λ _ s. done (record { scope = scope; row = row }) s))))

abbrev pub claim_line : List Claim → Next → State → Step (Option Claim)
claim_line claims Form s = then (claim_form claims s) (λ c s. done (Some c) s)
claim_line claims (End at) s = done None s

-- the next line has to be a claim, or the text has ended
abbrev pub claim_at : List Claim → State → Step (Option Claim)
claim_at claims s = then (lifted (next_form s.at) s) (claim_line claims)

abbrev pub and_more : (List Claim → State → Step (List Claim)) → List Claim → Option Claim → State → Step (List Claim)
and_more more claims (Some c) s = more (claims_with c claims) s
and_more more claims None s = done claims s

-- fewer than k claims, after those that there are
abbrev pub within_claims : ℕ → List Claim → State → Step (List Claim)
within_claims zero claims s = refused_form 4 (here s.at) s
within_claims (suc k) claims s = then (claim_at claims s) (and_more (within_claims k) claims)

-- all claims: each has a byte, so there are no more of them than bytes
unfoldable pub claims_from : List Claim → State → Step (List Claim)
claims_from claims s = within_claims (suc (length s.at.rest)) claims s

-- a claim has a byte
abbrev pub claim_eats : Option Claim → ℕ → ℕ → Type 0
claim_eats (Some c) after before = after < before
claim_eats None after before = after ≤ before

abbrev pub claims_read : Result (Unit {0}) Fault → State → List Claim → Step (List Claim)
claims_read (Ok _) s claims = done claims s
claims_read (Err e) s claims = failed (refused e)

-- what reading a sheet answers, and the rows and claims that the sheet then has
pub data Answer : Type 0 where
  accepts : List Row → List Claim → Answer
  refuses : Refused → List Row → List Claim → Answer

abbrev pub answered : Result (Unit {0}) Fault → Sheet → Answer
answered (Ok _) s = accepts (sheet_rows s) (sheet_claims s)
answered (Err e) s = refuses (refused e) (sheet_rows s) (sheet_claims s)

-- a text that is refused leaves a sheet without rows and claims
abbrev pub sheet_over : Step (List Claim) → Answer
sheet_over (done claims s) = accepts s.rows claims
sheet_over (failed e) = refuses e [] []

-- the state before a text's first byte
abbrev pub begun : List ℕ → State
begun text = record { at = start text 2; rows = [] }

-- the ground on which nothing is read: 10 where the text is too long
abbrev pub before_refusal : List ℕ → Option Refused
before_refusal text = cond (nat_lt text_limit (length text)) (Some (before_text 2 10)) None

-- a refusal inside the text says nothing of the rows and claims until the sheet is cleared
abbrev pub lines_read : Result (Unit {0}) Fault → Sheet → Answer
lines_read (Ok _) s = accepts (sheet_rows s) (sheet_claims s)
lines_read (Err e) s = refuses (refused e) [] []

abbrev pub answer_by : List ℕ → List Row → List Claim → Option Refused → Answer
answer_by text rows claims (Some e) = refuses e rows claims
answer_by text rows claims None = sheet_over (claims_from [] (begun text))

-- the answer for a text, and for the rows and claims that the sheet has before
abbrev pub sheet_answer : List ℕ → List Row → List Claim → Answer
sheet_answer text rows claims = answer_by text rows claims (before_refusal text)

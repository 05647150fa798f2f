-- The claim sheet as a language: which texts are sheets within the limits, and the rows and claims that a sheet makes.
use Rattle.std.specs.Prelude.{◌≡◌, ℕ, suc, ◌-◌, ◌<◌, ◌≤◌, max, List, [], ◌∷◌, ◌++◌, map, length, codes, Result, MatchResult}
use Rattle.std.specs.List.{AllByRecursion}
use Rattle.words.specs.declared.fault.Fault.{Fault}
use Rattle.words.specs.Words.{Tok, word, number, opens, closes, text_limit}
use Rattle.words.specs.Spelling.{Spells}
use Rattle.forms.specs.Lines.{Lines}
use Rattle.graph.specs.Meaning.{mode_limit, command_limit, flag_limit}
use Rattle.logic.specs.Trees.{Formula, Program, never, flag, negation, both, either, implies, box, diamond, command, sequence, choice, repetition, converse, test}
use Rattle.logic.specs.Sheets.{row_limit, claim_limit}
use Rattle.logic.specs.Rows.{FormulaRow, Orderly}
use Rattle.logic.specs.declared.row.Claim.{Claim}
use Rattle.logic.specs.declared.row.Row.{Row}
use Rattle.logic.specs.declared.row.Row.TheVariants.{Never, Flag, Not, Both, Either, Implies, Box, Diamond, Command, Sequence, Choice, Repetition, Converse, Test}
use Rattle.logic.specs.declared.row.Scope.{Scope}
use Rattle.logic.specs.declared.row.Scope.TheVariants as scope
use Rattle.sheet.specs.Reading.{depth_limit}

-- a tree in brackets: its letter, then its parts, as (K (P 0) (O))
abbrev pub bracketed : List ℕ → List Tok → List Tok
bracketed letter parts = opens ∷ (word letter ∷ parts)

abbrev mutual
  pub formula_tokens : Formula → List Tok
  formula_tokens never = bracketed (codes "O") (closes ∷ [])
  formula_tokens (flag p) = bracketed (codes "P") (number p ∷ (closes ∷ []))
  formula_tokens (negation x) = bracketed (codes "N") (formula_tokens x ++ closes ∷ [])
  formula_tokens (both x y) = bracketed (codes "K") (formula_tokens x ++ (formula_tokens y ++ closes ∷ []))
  formula_tokens (either x y) = bracketed (codes "A") (formula_tokens x ++ (formula_tokens y ++ closes ∷ []))
  formula_tokens (implies x y) = bracketed (codes "C") (formula_tokens x ++ (formula_tokens y ++ closes ∷ []))
  formula_tokens (box r x) = bracketed (codes "L") (program_tokens r ++ (formula_tokens x ++ closes ∷ []))
  formula_tokens (diamond r x) = bracketed (codes "M") (program_tokens r ++ (formula_tokens x ++ closes ∷ []))

  pub program_tokens : Program → List Tok
  program_tokens (command a) = bracketed (codes "d") (number a ∷ (closes ∷ []))
  program_tokens (sequence r s) = bracketed (codes "s") (program_tokens r ++ (program_tokens s ++ closes ∷ []))
  program_tokens (choice r s) = bracketed (codes "u") (program_tokens r ++ (program_tokens s ++ closes ∷ []))
  program_tokens (repetition r) = bracketed (codes "r") (program_tokens r ++ closes ∷ [])
  program_tokens (converse r) = bracketed (codes "b") (program_tokens r ++ closes ∷ [])
  program_tokens (test x) = bracketed (codes "t") (formula_tokens x ++ closes ∷ [])

-- the number of the last row
abbrev pub last : List Row → ℕ
last rows = length rows - 1

-- one row more: it names the last row
abbrev pub over_one : (ℕ → Row) → List Row → List Row
over_one row rows = rows ++ row (last rows) ∷ []

-- the rows of a second part, then one row more: it names the last row before them and the last of them
abbrev pub over_two : (ℕ → ℕ → Row) → List Row → (List Row → List Row) → List Row
over_two row rows second = second rows ++ row (last rows) (last (second rows)) ∷ []

abbrev mutual
  -- the rows with those of a tree behind them: those of its parts, left part first, then its own, which names the last row of each part
  pub with_formula : Formula → List Row → List Row
  with_formula never rows = rows ++ Never ∷ []
  with_formula (flag p) rows = rows ++ Flag p ∷ []
  with_formula (negation x) rows = over_one Not (with_formula x rows)
  with_formula (both x y) rows = over_two Both (with_formula x rows) (with_formula y)
  with_formula (either x y) rows = over_two Either (with_formula x rows) (with_formula y)
  with_formula (implies x y) rows = over_two Implies (with_formula x rows) (with_formula y)
  with_formula (box r x) rows = over_two Box (with_program r rows) (with_formula x)
  with_formula (diamond r x) rows = over_two Diamond (with_program r rows) (with_formula x)

  pub with_program : Program → List Row → List Row
  with_program (command a) rows = rows ++ Command a ∷ []
  with_program (sequence r s) rows = over_two Sequence (with_program r rows) (with_program s)
  with_program (choice r s) rows = over_two Choice (with_program r rows) (with_program s)
  with_program (repetition r) rows = over_one Repetition (with_program r rows)
  with_program (converse r) rows = over_one Converse (with_program r rows)
  with_program (test x) rows = over_one Test (with_formula x rows)

abbrev mutual
  -- how many of a tree's brackets are open at once
  pub formula_depth : Formula → ℕ
  formula_depth never = 1
  formula_depth (flag p) = 1
  formula_depth (negation x) = suc (formula_depth x)
  formula_depth (both x y) = suc (max (formula_depth x) (formula_depth y))
  formula_depth (either x y) = suc (max (formula_depth x) (formula_depth y))
  formula_depth (implies x y) = suc (max (formula_depth x) (formula_depth y))
  formula_depth (box r x) = suc (max (program_depth r) (formula_depth x))
  formula_depth (diamond r x) = suc (max (program_depth r) (formula_depth x))

  pub program_depth : Program → ℕ
  program_depth (command a) = 1
  program_depth (sequence r s) = suc (max (program_depth r) (program_depth s))
  program_depth (choice r s) = suc (max (program_depth r) (program_depth s))
  program_depth (repetition r) = suc (program_depth r)
  program_depth (converse r) = suc (program_depth r)
  program_depth (test x) = suc (formula_depth x)

abbrev mutual
  -- every flag and every command is below its limit
  pub FormulaFits : Formula → Type 0
  FormulaFits never = Unit {0}
  FormulaFits (flag p) = p < flag_limit
  FormulaFits (negation x) = FormulaFits x
  FormulaFits (both x y) = FormulaFits x × FormulaFits y
  FormulaFits (either x y) = FormulaFits x × FormulaFits y
  FormulaFits (implies x y) = FormulaFits x × FormulaFits y
  FormulaFits (box r x) = ProgramFits r × FormulaFits x
  FormulaFits (diamond r x) = ProgramFits r × FormulaFits x

  pub ProgramFits : Program → Type 0
  ProgramFits (command a) = a < command_limit
  ProgramFits (sequence r s) = ProgramFits r × ProgramFits s
  ProgramFits (choice r s) = ProgramFits r × ProgramFits s
  ProgramFits (repetition r) = ProgramFits r
  ProgramFits (converse r) = ProgramFits r
  ProgramFits (test x) = FormulaFits x

-- a claim as the text spells it: the formula is true at the modes that it names
pub record Sentence : Type 0 where
  pub scope : Scope
  pub formula : Formula

abbrev pub scope_token : Scope → Tok
scope_token scope.All = word (codes "all")
scope_token (scope.Mode u) = number u

-- the tokens of a claim, as (claim all (P 0)) and (claim 3 (P 0))
abbrev pub claim_tokens : Sentence → List Tok
claim_tokens x = opens ∷ (word (codes "claim") ∷ (scope_token x.scope ∷ (formula_tokens x.formula ++ closes ∷ [])))

-- a mode that is named is below its limit
abbrev pub ScopeFits : Scope → Type 0
ScopeFits scope.All = Unit {0}
ScopeFits (scope.Mode u) = u < mode_limit

-- a sentence within the limits
pub record SentenceFits (x : Sentence) : Type 0 where
  pub scope : ScopeFits x.scope
  pub depth : formula_depth x.formula ≤ depth_limit
  pub numbers : FormulaFits x.formula

-- the rows with those of the sentences' formulas behind them
abbrev pub rows_after : List Sentence → List Row → List Row
rows_after [] rows = rows
rows_after (x ∷ xs) rows = rows_after xs (with_formula x.formula rows)

-- the claims of the sentences: each names the last row of its formula
abbrev pub claims_after : List Sentence → List Row → List Claim
claims_after [] rows = []
claims_after (x ∷ xs) rows = record { scope = x.scope; row = last (with_formula x.formula rows) } ∷ claims_after xs (with_formula x.formula rows)

-- the text is a sheet of these sentences, within the limits
pub record IsSheet (text : List ℕ) (sentences : List Sentence) : Type 0 where
  pub short : length text ≤ text_limit
  pub tokens : List Tok
  pub spelled : Spells text tokens
  pub lines : Lines tokens (map claim_tokens sentences)
  pub claims : length sentences ≤ claim_limit
  pub rows : length (rows_after sentences []) ≤ row_limit
  pub fits : AllByRecursion SentenceFits sentences

-- each claim has the scope of its sentence, and its row stands for the sentence's formula
abbrev pub ClaimsStand : List Row → List Claim → List Sentence → Type 0
ClaimsStand rows [] [] = Unit {0}
ClaimsStand rows [] (x ∷ xs) = ⊥
ClaimsStand rows (c ∷ cs) [] = ⊥
ClaimsStand rows (c ∷ cs) (x ∷ xs) = (c.scope ≡ x.scope) × FormulaRow rows c.row x.formula × ClaimsStand rows cs xs

-- the text is a sheet, the only one it can be taken for, and these are its rows and claims
pub record SheetRead (text : List ℕ) (rows : List Row) (claims : List Claim) : Type 0 where
  pub sentences : List Sentence
  pub is : IsSheet text sentences
  pub only : (others : List Sentence) → IsSheet text others → others ≡ sentences
  pub made_rows : rows ≡ rows_after sentences []
  pub made_claims : claims ≡ claims_after sentences []
  -- so that each row stands for exactly one tree
  pub orderly : Orderly rows
  pub stand : ClaimsStand rows claims sentences

-- a text is accepted exactly where it is a sheet within the limits
abbrev pub ReadsExactly : List ℕ → Result (Unit {0}) Fault → List Row → List Claim → Type 0
ReadsExactly text r rows claims =
    MatchResult r (λ _. SheetRead text rows claims) (λ _. (sentences : List Sentence) → IsSheet text sentences → ⊥)

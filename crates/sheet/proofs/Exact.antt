-- A sheet is accepted exactly where its text is one, and its rows and claims are those that it makes.
use Rattle.std.proofs.Common.{◌≡◌, ℕ, zero, suc, ◌+◌, ◌<◌, ◌≤◌, Bool, true, false, cond, ltb, List, [], ◌∷◌, ◌++◌, map, length, Some, None, Ok, Err, Option, Result, sym, refl, ap, ◌∙◌, subst, append_assoc, append-nil, arith}
use Rattle.std.proofs.lemmas.List.{length-map, length_push}
use Rattle.std.proofs.lemmas.Bool.{ltb-false, lt-ltb}
use Rattle.std.specs.List.{AllByRecursion}
use Rattle.words.specs.declared.fault.Fault.{Fault}
use Rattle.words.specs.Numbers.{Refused, before_text}
use Rattle.words.specs.Words.{Tok, Reading, start}
use Rattle.words.proofs.Tokens.{Reads, reads_from_spells, spells_from_reads, length_reads}
use Rattle.forms.specs.Lines.{Lines}
use Rattle.forms.proofs.Spelled.{length_lines}
use Rattle.logic.specs.Rows.{FormulaRow}
use Rattle.logic.specs.Sheets.{claims_with, sheet_rows, sheet_claims}
use Rattle.logic.specs.Trees.{Formula}
use Rattle.logic.specs.declared.row.Claim.{Claim}
use Rattle.logic.specs.declared.row.Row.{Row}
use Rattle.logic.specs.declared.row.Scope.{Scope}
use Rattle.logic.specs.declared.sheet.Sheet.{Sheet}
use Rattle.logic.proofs.Rows.{formula_same}
use Rattle.sheet.specs.Reading.{State, Step, done, failed, accepts, refuses, answered, answer_by, begun, sheet_answer, sheet_over, claim_at, and_more, within_claims, claims_from}
use Rattle.sheet.specs.Grammar.{last, with_formula, Sentence, SentenceFits, claim_tokens, rows_after, claims_after, IsSheet, SheetRead, ClaimsStand, ReadsExactly}
use Rattle.logic.specs.Rows.{Orderly}
use Rattle.sheet.proofs.Ordered.{sheet_orderly, claims_stand}
use Rattle.sheet.proofs.Added.{behind_longer, rows_behind, formula_still, formula_stands}
use Rattle.sheet.proofs.Steps.{done_value, done_state, then_parts}
use Rattle.sheet.proofs.ClaimsRead.{state, then_done, claim_of, claim_made, no_claim_made, LineRead, claim_read}
use Rattle.sheet.proofs.Whole.{answer_over}

-- a claim for which there is room
claims_one : (c : Claim) (claims : List Claim) → length claims < 16 → claims_with c claims ≡ claims ++ c ∷ []
claims_one c claims low = let t = lt-ltb (length claims) 16 low in rw t refl

-- all claims that are spelled are read
claims_made : (k : ℕ) (claims : List Claim) (xs : List Sentence) (s : State) (ts : List Tok) → length xs < k → length claims + length xs ≤ 16 → AllByRecursion SentenceFits xs → length (rows_after xs s.rows) ≤ 48 → Reads s.at ts → Lines ts (map claim_tokens xs) → (q : Reading) × (within_claims k claims s ≡ done (claims ++ claims_after xs s.rows) (state q (rows_after xs s.rows)))
claims_made zero claims xs s ts enough room fits few r lines = absurd (omega arith)
claims_made (suc k) claims [] s ts enough room fits few r lines =
    let (q, e) = no_claim_made claims s ts r lines in
    (q, then_done (and_more (within_claims k) claims) e ∙ ap (λ (z : List Claim). done z (state q s.rows)) (sym (append-nil claims)))
claims_made (suc k) claims (x ∷ xs) s ts enough room fits few r lines =
    let rows = with_formula x.formula s.rows in
    let c = claim_of x s.rows in
    let grown = behind_longer rows (rows_after xs rows) (rows_behind xs rows) in
    let (p, us, e, r1, more) = claim_made claims x s ts (map claim_tokens xs) (omega arith) fits.0 (omega arith) r lines in
    let long = length_push claims c in
    let (q, f) = claims_made k (claims ++ c ∷ []) xs (state p rows) us (omega arith) (omega arith) fits.1 few r1 more in (
      q,
      then_done (and_more (within_claims k) claims) e
          ∙ ap (λ (z : List Claim). within_claims k z (state p rows)) (claims_one c claims (omega arith))
          ∙ f
          ∙ ap (λ (z : List Claim). done z (state q (rows_after xs rows))) (append_assoc claims (c ∷ []) (claims_after xs rows)),
    )

-- the claims that were read, after those that there were
record AllRead (claims : List Claim) (all : List Claim) (s t : State) : Type 0 where
  sentences : List Sentence
  tokens : List Tok
  fits : AllByRecursion SentenceFits sentences
  reads : Reads s.at tokens
  lines : Lines tokens (map claim_tokens sentences)
  rows : t.rows ≡ rows_after sentences s.rows
  made : all ≡ claims ++ claims_after sentences s.rows
  room : length claims + length sentences ≤ 16
  few : length t.rows ≤ 48

more_read : (k : ℕ) (claims : List Claim) (o : Option Claim) (all : List Claim) (s u t : State) → length claims ≤ 16 → length s.rows ≤ 48 → ((claims all : List Claim) (s t : State) → length claims ≤ 16 → length s.rows ≤ 48 → within_claims k claims s ≡ done all t → AllRead claims all s t) → LineRead claims o s u → and_more (within_claims k) claims o u ≡ done all t → AllRead claims all s t
more_read k claims None all s u t room few others line e =
    let (same, ts, r, lines) = line in
    let still : t.rows ≡ s.rows = ap (λ (z : State). z.rows) (sym (done_state e)) ∙ same in
    record {
      sentences = [];
      tokens = ts;
      fits = tt;
      reads = r;
      lines = lines;
      rows = still;
      made = sym (done_value e) ∙ sym (append-nil claims);
      room = omega arith;
      few = omega (arith, ap length still);
    }
more_read k claims (Some c) all s u t room few others line e =
    let one = claims_one c claims line.room in
    let long = length_push claims c in
    let x = others (claims ++ c ∷ []) all u t (omega (arith, line.room)) line.few (ap (λ (z : List Claim). within_claims k z u) (sym one) ∙ e) in
    let (ts, r, lines) = line.reads x.tokens (map claim_tokens x.sentences) x.reads x.lines in
    record {
      sentences = line.sentence ∷ x.sentences;
      tokens = ts;
      fits = (line.fits, x.fits);
      reads = r;
      lines = lines;
      rows = x.rows ∙ ap (rows_after x.sentences) line.rows;
      made =
          x.made
          ∙ append_assoc claims (c ∷ []) (claims_after x.sentences u.rows)
          ∙ ap (λ (z : Claim). claims ++ z ∷ claims_after x.sentences u.rows) line.claim
          ∙ ap (λ (z : List Row). claims ++ claim_of line.sentence s.rows ∷ claims_after x.sentences z) line.rows;
      room = omega (arith, x.room);
      few = x.few;
    }

claims_read : (k : ℕ) (claims all : List Claim) (s t : State) → length claims ≤ 16 → length s.rows ≤ 48 → within_claims k claims s ≡ done all t → AllRead claims all s t
claims_read zero claims all s t room few e = cc
claims_read (suc k) claims all s t room few e =
    let (o, u, f, g) = then_parts (claim_at claims s) (and_more (within_claims k) claims) all t e in
    more_read k claims o all s u t room few (claims_read k) (claim_read claims o s u f) g

-- a sheet's text is read
sheet_made : (text : List ℕ) (xs : List Sentence) → IsSheet text xs → (q : Reading) × (claims_from [] (begun text) ≡ done (claims_after xs []) (state q (rows_after xs [])))
unfolding claims_from
sheet_made text xs is =
    let r = reads_from_spells (start text 2) is.spelled in
    let enough : length xs < suc (length text) = omega (arith, length-map xs claim_tokens, length_lines is.lines, length_reads r) in
    claims_made (suc (length text)) [] xs (begun text) is.tokens enough (omega (arith, is.claims)) is.fits is.rows r is.lines

-- the same rows and claims are those of the same sentences
sentences_same : (rows : List Row) (xs ys : List Sentence) (a b : List Row) → rows_after xs a ≡ rows → rows_after ys b ≡ rows → claims_after xs a ≡ claims_after ys b → xs ≡ ys
sentences_same rows [] [] a b e f h = refl
sentences_same rows [] (y ∷ ys) a b e f h = cc
sentences_same rows (x ∷ xs) [] a b e f h = cc
sentences_same rows (x ∷ xs) (y ∷ ys) a b e f h =
    let c = with_formula x.formula a in
    let d = with_formula y.formula b in
    let one : claim_of x a ≡ claim_of y b = cc in
    let more : claims_after xs c ≡ claims_after ys d = cc in
    let names : x.scope ≡ y.scope = ap (λ (z : Claim). z.scope) one in
    let number : last c ≡ last d = ap (λ (z : Claim). z.row) one in
    let p : FormulaRow rows (last c) x.formula = subst (λ (z : List Row). FormulaRow z (last c) x.formula) e (formula_still c (rows_after xs c) (last c) x.formula (rows_behind xs c) (formula_stands x.formula a)) in
    let q : FormulaRow rows (last d) y.formula = subst (λ (z : List Row). FormulaRow z (last d) y.formula) f (formula_still d (rows_after ys d) (last d) y.formula (rows_behind ys d) (formula_stands y.formula b)) in
    let same : x.formula ≡ y.formula = formula_same rows (last d) y.formula x.formula q (subst (λ (n : ℕ). FormulaRow rows n x.formula) number p) in
    let rest = sentences_same rows xs ys c d e f more in
    ap (λ (z : Scope). record { scope = z; formula = x.formula } ∷ xs) names
    ∙ ap (λ (z : Formula). record { scope = y.scope; formula = z } ∷ xs) same
    ∙ ap (λ (z : List Sentence). y ∷ z) rest

accepts_not_refuses : {a b : List Row} {c d : List Claim} {e : Refused} → accepts a c ≡ refuses e b d → ⊥
accepts_not_refuses h = cc

-- a text that was read is a sheet's
sheet_read : (text : List ℕ) (rows : List Row) (claims : List Claim) (o : Step (List Claim)) → length text ≤ 32768 → claims_from [] (begun text) ≡ o → accepts rows claims ≡ sheet_over o → SheetRead text rows claims
unfolding claims_from
sheet_read text rows claims (done all t) short e h =
    let x = claims_read (suc (length text)) [] all (begun text) t (omega arith) (omega arith) e in
    let left : rows ≡ t.rows = cc in
    let right : claims ≡ all = cc in
    let few : length (rows_after x.sentences []) ≤ 48 = omega (arith, x.few, ap length x.rows) in
    record {
      sentences = x.sentences;
      is = record {
        short = short;
        tokens = x.tokens;
        spelled = spells_from_reads (start text 2) x.reads;
        lines = x.lines;
        claims = omega (arith, x.room);
        rows = few;
        fits = x.fits;
      };
      only = λ others other.
          let (q, f) = sheet_made text others other in
          let g = sym f ∙ e in
          sentences_same t.rows others x.sentences [] [] (ap (λ (z : State). z.rows) (done_state g)) (sym x.rows) (done_value g ∙ x.made);
      made_rows = left ∙ x.rows;
      made_claims = right ∙ x.made;
      orderly = subst Orderly (sym (left ∙ x.rows)) (sheet_orderly x.sentences);
      stand =
          subst (λ (z : List Row). ClaimsStand z claims x.sentences) (sym (left ∙ x.rows))
          (subst (λ (z : List Claim). ClaimsStand (rows_after x.sentences []) z x.sentences) (sym (right ∙ x.made)) (claims_stand x.sentences []));
    }
sheet_read text rows claims (failed r) short e h = cc

-- an answer that is no refusal came from the text
accepted : (text : List ℕ) (before rows : List Row) (was claims : List Claim) (long : Bool) → ltb 32768 (length text) ≡ long → accepts rows claims ≡ answer_by text before was (cond long (Some (before_text 2 10)) None) → SheetRead text rows claims
accepted text before rows was claims true f h = cc
accepted text before rows was claims false f h = sheet_read text rows claims (claims_from [] (begun text)) (ltb-false 32768 (length text) f) refl h

pub reads_exactly : (text : List ℕ) (rows : List Row) (claims : List Claim) (r : Result (Unit {0}) Fault) (s : Sheet) → answered r s ≡ sheet_answer text rows claims → ReadsExactly text r (sheet_rows s) (sheet_claims s)
reads_exactly text rows claims (Ok x) s h = accepted text rows (sheet_rows s) claims (sheet_claims s) (ltb 32768 (length text)) refl h
reads_exactly text rows claims (Err f) s h = λ xs is.
    let (q, e) = sheet_made text xs is in
    accepts_not_refuses (sym (h ∙ answer_over text rows claims is.short ∙ ap sheet_over e))

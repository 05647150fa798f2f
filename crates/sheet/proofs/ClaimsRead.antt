-- Claims of a sheet: what is read is what is spelled, and what is spelled is read.
use Rattle.std.proofs.Common.{◌≡◌, ℕ, ◌<◌, ◌≤◌, Bool, true, false, cond, ltb, List, [], ◌∷◌, ◌++◌, length, Some, None, codes, Option, sym, refl, ap, ◌∙◌, subst, append_assoc, arith}
use Rattle.std.proofs.lemmas.Slice.Eq.{bytes_eq-Decides}
use Rattle.std.proofs.lemmas.Bool.{ltb-true, lt-ltb}
use Rattle.std.specs.Str.{bytes_eq}
use Rattle.words.specs.declared.fault.Place.{Place}
use Rattle.words.specs.Numbers.{Refused}
use Rattle.words.specs.Words.{Tok, word, number, opens, closes, line_end, text_end, TokenAt, Reading, Out, good, bad, bind, next_token}
use Rattle.words.proofs.Tokens.{Reads, reads_token, first_read}
use Rattle.forms.specs.declared.form.Next.{Next}
use Rattle.forms.specs.declared.form.Next.TheVariants.{Form, End}
use Rattle.forms.specs.Forms.{ItemAt, item_name, item_number, form_end, itemized, named, next_form, taken}
use Rattle.forms.specs.Lines.{Lines}
use Rattle.forms.proofs.Steps.{good_value, good_reading, form_end_from_reads, reads_from_form_end}
use Rattle.forms.proofs.Spelled.{After, named_from_reads, reads_from_named, form_from_reads, reads_from_form, end_from_reads, reads_from_end}
use Rattle.logic.specs.declared.row.Claim.{Claim}
use Rattle.logic.specs.declared.row.Row.{Row}
use Rattle.logic.specs.declared.row.Scope.{Scope}
use Rattle.logic.specs.declared.row.Scope.TheVariants as scope
use Rattle.sheet.specs.Reading.{State, Step, done, failed, then, lifted, claim_word, scope_of, scope_at, formula_at, claim_form, claim_line, claim_at}
use Rattle.sheet.specs.Grammar.{last, with_formula, formula_tokens, formula_depth, FormulaFits, Sentence, SentenceFits, ScopeFits, scope_token, claim_tokens}
use Rattle.sheet.proofs.Steps.{done_value, done_state, then_parts, lifted_parts, cond_done, Before}
use Rattle.sheet.proofs.TreesMade.{formula_made}
use Rattle.sheet.proofs.TreesRead.{formula_read}

-- a state, by its parts
abbrev pub state : Reading → List Row → State
state p rows = record { at = p; rows = rows }

-- a step that was done, and the next
pub then_done : {A B : Type 0} {o : Step A} {a : A} {s : State} (f : A → State → Step B) → o ≡ done a s → then o f ≡ f a s
then_done f e = ap (λ o. then o f) e

-- a test that did not refuse
cond_passed : {A : Type 0} (b : Bool) (x : Step A) (r : Refused) (a : A) (t : State) → cond b x (failed r) ≡ done a t → (b ≡ true) × (x ≡ done a t)
cond_passed true x r a t e = (refl, e)
cond_passed false x r a t e = cc

-- the word of a claim
word_made : (claims : List Claim) (s : State) (ts : List Tok) → length claims < 16 → Reads s.at (word (codes "claim") ∷ ts) → (q : Reading) × (claim_word claims s ≡ done tt (state q s.rows)) × Reads q ts
word_made claims s ts low r =
    let (q, at, e, more) = named_from_reads r in
    let t = lt-ltb (length claims) 16 low in
    (q, rw (e, t) refl, more)

word_parts : (claims : List Claim) (s t : State) (x : Unit {0}) → claim_word claims s ≡ done x t → Before (word (codes "claim") ∷ []) s t × (t.rows ≡ s.rows) × (length claims < 16)
word_parts claims s t x e =
    let (w, u, e1, f1) = then_parts (lifted (taken named s.at) s) _ x t e in
    let (o, same) = lifted_parts (taken named s.at) s w u e1 in
    let (is, f2) = cond_passed (bytes_eq w.bytes (codes "claim")) _ _ x t f1 in
    let (low, value, stays) = cond_done (ltb (length claims) 16) tt x u t _ f2 in
    let bytes = (bytes_eq-Decides w.bytes (codes "claim")).0 is in
    ((λ ts r. subst (λ (z : List ℕ). Reads s.at (word z ∷ ts)) bytes (reads_from_named o (subst (λ (z : State). Reads z.at ts) (sym stays) r))), ap (λ (z : State). z.rows) (sym stays) ∙ same, ltb-true (length claims) 16 low)

-- the modes of a claim: a word or a number
abbrev item_token : ItemAt → Tok
item_token (item_name w) = word w.bytes
item_token (item_number n) = number n.value

reads_from_itemized : (p q : Reading) (i : ItemAt) (ts : List Tok) → taken itemized p ≡ good i q → Reads q ts → Reads p (item_token i ∷ ts)
reads_from_itemized p q i ts e r = go (next_token p) refl e
  where
    by : (t : Tok) (at : Place) (u : Reading) → next_token p ≡ good (record { tok = t; place = at }) u → itemized t at u ≡ good i q → Reads p (item_token i ∷ ts)
    by (word w) at u n f = subst (λ (z : ItemAt). Reads p (item_token z ∷ ts)) (good_value f) (reads_token n tt (subst (λ (z : Reading). Reads z ts) (sym (good_reading f)) r))
    by (number m) at u n f = subst (λ (z : ItemAt). Reads p (item_token z ∷ ts)) (good_value f) (reads_token n tt (subst (λ (z : Reading). Reads z ts) (sym (good_reading f)) r))
    by opens at u n f = cc
    by closes at u n f = cc
    by line_end at u n f = cc
    by text_end at u n f = cc

    go : (o : Out TokenAt) → next_token p ≡ o → bind o (λ t q. itemized t.tok t.place q) ≡ good i q → Reads p (item_token i ∷ ts)
    go (good t u) n f = by t.tok t.place u n f
    go (bad x) n f = cc

scope_of_parts : (i : ItemAt) (s t : State) (x : Scope) → scope_of i s ≡ done x t → (item_token i ≡ scope_token x) × ScopeFits x × (s ≡ t)
scope_of_parts (item_name w) s t x e =
    let (is, value, stays) = cond_done (bytes_eq w.bytes (codes "all")) scope.All x s t _ e in
    (ap word ((bytes_eq-Decides w.bytes (codes "all")).0 is) ∙ ap scope_token value, subst ScopeFits value tt, stays)
scope_of_parts (item_number n) s t x e =
    let (low, value, stays) = cond_done (ltb n.value 64) (scope.Mode n.value) x s t _ e in
    (ap scope_token value, subst ScopeFits value (ltb-true n.value 64 low), stays)

scope_parts : (s t : State) (x : Scope) → scope_at s ≡ done x t → ScopeFits x × Before (scope_token x ∷ []) s t × (t.rows ≡ s.rows)
scope_parts s t x e =
    let (i, u, e1, f1) = then_parts (lifted (taken itemized s.at) s) scope_of x t e in
    let (o, same) = lifted_parts (taken itemized s.at) s i u e1 in
    let (is, fits, stays) = scope_of_parts i u t x f1 in
    (fits, (λ ts r. subst (λ (z : Tok). Reads s.at (z ∷ ts)) is (reads_from_itemized s.at u.at i ts o (subst (λ (z : State). Reads z.at ts) (sym stays) r))), ap (λ (z : State). z.rows) (sym stays) ∙ same)

scope_made : (x : Scope) (s : State) (ts : List Tok) → ScopeFits x → Reads s.at (scope_token x ∷ ts) → (q : Reading) × (scope_at s ≡ done x (state q s.rows)) × Reads q ts
scope_made scope.All s ts fits r =
    let (q, at, e, more) = first_read r in
    (q, rw e refl, more)
scope_made (scope.Mode u) s ts fits r =
    let (q, at, e, more) = first_read r in
    let t = lt-ltb u 64 fits in
    (q, rw (e, t) refl, more)

-- the end of a form and of its line
end_made : (s : State) (ts : List Tok) (forms : List (List Tok)) → Reads s.at (closes ∷ ts) → After ts forms → (q : Reading) × (us : List Tok) × (lifted (form_end s.at) s ≡ done tt (state q s.rows)) × Reads q us × Lines us forms
end_made s ts forms r a =
    let (q, us, e, more, lines) = form_end_from_reads r a in
    (q, us, rw e refl, more, lines)

end_parts : (s t : State) (x : Unit {0}) → lifted (form_end s.at) s ≡ done x t → (t.rows ≡ s.rows) × ((us : List Tok) (forms : List (List Tok)) → Reads t.at us → Lines us forms → (ts : List Tok) × Reads s.at (closes ∷ ts) × After ts forms)
end_parts s t x e =
    let (o, same) = lifted_parts (form_end s.at) s x t e in
    (same, λ us forms r lines. reads_from_form_end o r lines)

-- a claim, where so many brackets may be opened
abbrev claim_within : ℕ → List Claim → State → Step Claim
claim_within d claims s =
    then (claim_word claims s) (λ _ s. then (scope_at s) (λ scope s. then (formula_at d s) (λ row s. then (lifted (form_end s.at) s) (λ _ s. done (record { scope = scope; row = row }) s))))

-- the claim that a sentence makes after these rows
abbrev pub claim_of : Sentence → List Row → Claim
claim_of x rows = record { scope = x.scope; row = last (with_formula x.formula rows) }

-- the tokens of a claim after its bracket
abbrev inner : Sentence → List Tok → List Tok
inner x ts = word (codes "claim") ∷ (scope_token x.scope ∷ (formula_tokens x.formula ++ closes ∷ ts))

inner_joined : (x : Sentence) (ts : List Tok) → inner x [] ++ ts ≡ inner x ts
inner_joined x ts = ap (λ (z : List Tok). word (codes "claim") ∷ (scope_token x.scope ∷ z)) (append_assoc (formula_tokens x.formula) (closes ∷ []) ts)

form_made : (d : ℕ) (claims : List Claim) (x : Sentence) (s : State) (ts : List Tok) (forms : List (List Tok)) → length claims < 16 → ScopeFits x.scope → formula_depth x.formula ≤ d → FormulaFits x.formula → length (with_formula x.formula s.rows) ≤ 48 → Reads s.at (inner x ts) → After ts forms → (q : Reading) × (us : List Tok) × (claim_within d claims s ≡ done (claim_of x s.rows) (state q (with_formula x.formula s.rows))) × Reads q us × Lines us forms
form_made d claims x s ts forms low named deep fits few r after =
    let rows = with_formula x.formula s.rows in
    let (p1, e1, r1) = word_made claims s (scope_token x.scope ∷ (formula_tokens x.formula ++ closes ∷ ts)) low r in
    let (p2, e2, r2) = scope_made x.scope (state p1 s.rows) (formula_tokens x.formula ++ closes ∷ ts) named r1 in
    let (p3, e3, r3) = formula_made d x.formula (closes ∷ ts) deep fits (state p2 s.rows) r2 few in
    let (p4, us, e4, r4, lines) = end_made (state p3 rows) ts forms r3 after in
    (p4, us, then_done _ e1 ∙ then_done _ e2 ∙ then_done _ e3 ∙ then_done _ e4, r4, lines)

-- a claim that was read after its bracket
record FormRead (d : ℕ) (claims : List Claim) (c : Claim) (s t : State) : Type 0 where
  sentence : Sentence
  scope : ScopeFits sentence.scope
  depth : formula_depth sentence.formula ≤ d
  numbers : FormulaFits sentence.formula
  reads : (us : List Tok) (forms : List (List Tok)) → Reads t.at us → Lines us forms → (ts : List Tok) × Reads s.at (inner sentence ts) × After ts forms
  rows : t.rows ≡ with_formula sentence.formula s.rows
  claim : c ≡ claim_of sentence s.rows
  few : length t.rows ≤ 48
  room : length claims < 16

form_read : (d : ℕ) (claims : List Claim) (c : Claim) (s t : State) → claim_within d claims s ≡ done c t → FormRead d claims c s t
form_read d claims c s t e =
    let (x, s1, e1, f1) = then_parts (claim_word claims s) _ c t e in
    let (names, s2, e2, f2) = then_parts (scope_at s1) _ c t f1 in
    let (i, s3, e3, f3) = then_parts (formula_at d s2) _ c t f2 in
    let (y, s4, e4, f4) = then_parts (lifted (form_end s3.at) s3) _ c t f3 in
    let (b1, k1, room) = word_parts claims s s1 x e1 in
    let (fits, b2, k2) = scope_parts s1 s2 names e2 in
    let z = formula_read d s2 s3 i e3 in
    let (k4, b4) = end_parts s3 s4 y e4 in
    let value = done_value f4 in
    let stays = done_state f4 in
    let rows : s3.rows ≡ with_formula z.formula s.rows = z.rows ∙ ap (with_formula z.formula) (k2 ∙ k1) in
    let end : t.rows ≡ s3.rows = ap (λ (v : State). v.rows) (sym stays) ∙ k4 in
    record {
      sentence = record { scope = names; formula = z.formula };
      scope = fits;
      depth = z.depth;
      numbers = z.fits;
      reads = λ us forms r lines.
          let (ts, r4, after) = b4 us forms (subst (λ (v : State). Reads v.at us) (sym stays) r) lines in
          (ts, b1 _ (b2 _ (z.reads (closes ∷ ts) r4)), after);
      rows = end ∙ rows;
      claim = sym value ∙ ap (λ (n : ℕ). record { scope = names; row = n }) (z.number ∙ ap last rows);
      few = omega (arith, z.few, ap length end);
      room = room;
    }

-- a claim, as a line
pub claim_made : (claims : List Claim) (x : Sentence) (s : State) (ts : List Tok) (forms : List (List Tok)) → length claims < 16 → SentenceFits x → length (with_formula x.formula s.rows) ≤ 48 → Reads s.at ts → Lines ts (claim_tokens x ∷ forms) → (q : Reading) × (us : List Tok) × (claim_at claims s ≡ done (Some (claim_of x s.rows)) (state q (with_formula x.formula s.rows))) × Reads q us × Lines us forms
claim_made claims x s ts forms low fits few r lines =
    let (p1, tail, e1, r1, after) = form_from_reads r lines in
    let (q, us, e2, r2, more) = form_made 16 claims x (state p1 s.rows) tail forms low fits.scope fits.depth fits.numbers few (subst (Reads p1) (inner_joined x tail) r1) after in
    let f1 : lifted (next_form s.at) s ≡ done Form (state p1 s.rows) = ap (λ (o : Out Next). lifted o s) e1 in
    (q, us, then_done (claim_line claims) f1 ∙ then_done (λ c s. done (Some c) s) e2, r2, more)

-- at the end there is none
pub no_claim_made : (claims : List Claim) (s : State) (ts : List Tok) → Reads s.at ts → Lines ts [] → (q : Reading) × (claim_at claims s ≡ done None (state q s.rows))
no_claim_made claims s ts r lines =
    let (q, at, e) = end_from_reads r lines in
    let f : lifted (next_form s.at) s ≡ done (End at) (state q s.rows) = ap (λ (o : Out Next). lifted o s) e in
    (q, then_done (claim_line claims) f)

-- the claim that was read, if any
pub record OneRead (claims : List Claim) (c : Claim) (s t : State) : Type 0 where
  pub sentence : Sentence
  pub fits : SentenceFits sentence
  pub reads : (us : List Tok) (forms : List (List Tok)) → Reads t.at us → Lines us forms → (ts : List Tok) × Reads s.at ts × Lines ts (claim_tokens sentence ∷ forms)
  pub rows : t.rows ≡ with_formula sentence.formula s.rows
  pub claim : c ≡ claim_of sentence s.rows
  pub few : length t.rows ≤ 48
  pub room : length claims < 16

abbrev pub LineRead : List Claim → Option Claim → State → State → Type 0
LineRead claims (Some c) s t = OneRead claims c s t
LineRead claims None s t = (t.rows ≡ s.rows) × (ts : List Tok) × Reads s.at ts × Lines ts []

line_read : (claims : List Claim) (next : Next) (o : Option Claim) (s u t : State) → next_form s.at ≡ good next u.at → u.rows ≡ s.rows → claim_line claims next u ≡ done o t → LineRead claims o s t
line_read claims (End at) o s u t f same e =
    let (ts, r, lines) = reads_from_end f in
    subst (λ (z : Option Claim). LineRead claims z s t) (done_value e) (ap (λ (z : State). z.rows) (sym (done_state e)) ∙ same, ts, r, lines)
line_read claims Form o s u t f same e =
    let (c, v, e1, f1) = then_parts (claim_form claims u) (λ c s. done (Some c) s) o t e in
    let x = form_read 16 claims c u v e1 in
    let stays = done_state f1 in
    let still : t.rows ≡ v.rows = ap (λ (z : State). z.rows) (sym stays) in
    subst (λ (z : Option Claim). LineRead claims z s t) (done_value f1) (record {
      sentence = x.sentence;
      fits = record { scope = x.scope; depth = x.depth; numbers = x.numbers };
      reads = λ us forms r lines.
          let (tail, r1, after) = x.reads us forms (subst (λ (z : State). Reads z.at us) (sym stays) r) lines in
          reads_from_form (inner x.sentence []) f (subst (Reads u.at) (sym (inner_joined x.sentence tail)) r1) after;
      rows = still ∙ x.rows ∙ ap (with_formula x.sentence.formula) same;
      claim = x.claim ∙ ap (claim_of x.sentence) same;
      few = omega (arith, x.few, ap length still);
      room = x.room;
    })

pub claim_read : (claims : List Claim) (o : Option Claim) (s t : State) → claim_at claims s ≡ done o t → LineRead claims o s t
claim_read claims o s t e =
    let (next, u, e1, f1) = then_parts (lifted (next_form s.at) s) (claim_line claims) o t e in
    let (n, same) = lifted_parts (next_form s.at) s next u e1 in
    line_read claims next o s u t n same f1

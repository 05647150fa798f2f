-- What each step of reading forms takes is what the tokens of the text spell there.
use Rattle.std.proofs.Common.{◌≡◌, ℕ, zero, suc, ◌-◌, ◌<◌, ◌≤◌, ◌⊎◌, List, [], ◌∷◌, ◌++◌, length, sym, refl, ap, ◌∙◌, subst, inl, inr, append-nil, arith, length-append}
use Rattle.words.specs.declared.fault.Place.{Place}
use Rattle.words.specs.declared.token.Placed.{Placed}
use Rattle.words.specs.Words.{Tok, word, number, opens, closes, line_end, text_end, TokenAt, Reading, Out, good, bad, bind, next_token}
use Rattle.words.proofs.Tokens.{Reads, reads_end, reads_token, none_read, first_read, token_shorter, text_end_rest, text_end_stays, reads_nothing}
use Rattle.forms.specs.declared.form.Next.{Next}
use Rattle.forms.specs.declared.form.Next.TheVariants.{Form, End}
use Rattle.forms.specs.Forms.{opened, closed, numbered, named, WordAt, ended, begun, taken, past_blank, within_lines, next_form}
use Rattle.forms.specs.Lines.{Lines, no_line, blank_line, last_form, form_line}

-- what follows a form: the text's end, or a line end and further lines
abbrev pub After : List Tok → List (List Tok) → Type 0
After ts forms = ((ts ≡ []) × (forms ≡ [])) ⊎ ((us : List Tok) × (ts ≡ line_end ∷ us) × Lines us forms)

-- what holds of the value that a step gives and of where it ends, if it refuses nothing
abbrev Gives : {A : Type 0} → Out A → (A → Reading → Type 0) → Type 0
Gives (good a q) P = P a q
Gives (bad e) P = Unit {0}

-- it holds of a value that is given
gives_good : {A : Type 0} (P : A → Reading → Type 0) {o : Out A} {a : A} {q : Reading} → Gives o P → o ≡ good a q → P a q
gives_good P g e = subst (λ o. Gives o P) e g

-- so does what follows from it
gives_more : {A : Type 0} (o : Out A) (P Q : A → Reading → Type 0) → ((a : A) (q : Reading) → P a q → Q a q) → Gives o P → Gives o Q
gives_more (good a q) P Q more g = more a q g
gives_more (bad e) P Q more g = tt

-- of two steps it is asked at the second
bind_gives : {A B : Type 0} (o : Out A) (f : A → Reading → Out B) (P : B → Reading → Type 0) → Gives o (λ a q. Gives (f a q) P) → Gives (bind o f) P
bind_gives (good a q) f P g = g
bind_gives (bad e) f P g = tt

-- the next token is t, and reading goes on at q
abbrev NextIs : Reading → Tok → Place → Reading → Type 0
NextIs p t at q = next_token p ≡ good (record { tok = t; place = at }) q

-- the next token, taken by a step f
module _ {A : Type 0} (f : Tok → Place → Reading → Out A) where
  -- what holds of f at each token that may be next
  taken_gives : (P : A → Reading → Type 0) (p : Reading) → ((t : Tok) (at : Place) (q : Reading) → NextIs p t at q → Gives (f t at q) P) → Gives (taken f p) P
  taken_gives P p each = go (next_token p) refl
    where
      go : (o : Out TokenAt) → next_token p ≡ o → Gives (bind o (λ t q. f t.tok t.place q)) P
      go (good t q) e = each t.tok t.place q e
      go (bad r) e = tt

  -- what f gives at the token that is next
  taken_is : (p : Reading) {t : Tok} {at : Place} {q : Reading} → NextIs p t at q → taken f p ≡ f t at q
  taken_is p e = ap (λ o. bind o (λ t q. f t.tok t.place q)) e

  -- so too where the next token is the first that reading gives
  taken_from_reads : {p : Reading} {t : Tok} {ts : List Tok} → Reads p (t ∷ ts) → (q : Reading) × (at : Place) × (taken f p ≡ f t at q) × Reads q ts
  taken_from_reads {p} r = let (q, at, e, more) = first_read r in (q, at, taken_is p e, more)

-- a value stands for a token that was read before what is read from here
abbrev Before : {A : Type 0} → (A → Tok) → Reading → A → Reading → Type 0
Before token p a q = (ts : List Tok) → Reads q ts → Reads p (token a ∷ ts)

-- a step that takes one kind of token reads a token of that kind
reads_from_taken : {A : Type 0} (f : Tok → Place → Reading → Out A) (token : A → Tok) {p q : Reading} {a : A} {ts : List Tok} → ((t : Tok) (at : Place) (q : Reading) → NextIs p t at q → Gives (f t at q) (Before token p)) → taken f p ≡ good a q → Reads q ts → Reads p (token a ∷ ts)
reads_from_taken f token {p} {ts = ts} each e = gives_good (Before token p) (taken_gives f (Before token p) p each) e ts

-- an opening bracket is read where it is spelled
pub opened_from_reads : {p : Reading} {ts : List Tok} → Reads p (opens ∷ ts) → (q : Reading) × (at : Place) × (taken opened p ≡ good at q) × Reads q ts
opened_from_reads = taken_from_reads opened

-- and is spelled where it is read
pub reads_from_opened : {p q : Reading} {at : Place} {ts : List Tok} → taken opened p ≡ good at q → Reads q ts → Reads p (opens ∷ ts)
reads_from_opened = reads_from_taken opened (λ at. opens) (elim [ word w ↦ λ at q e. tt | number n ↦ λ at q e. tt | opens ↦ λ at q e ts r. reads_token e tt r | closes ↦ λ at q e. tt | line_end ↦ λ at q e. tt | text_end ↦ λ at q e. tt ])

-- a closing bracket is read where it is spelled
pub closed_from_reads : {p : Reading} {ts : List Tok} → Reads p (closes ∷ ts) → (q : Reading) × (at : Place) × (taken closed p ≡ good at q) × Reads q ts
closed_from_reads = taken_from_reads closed

-- and is spelled where it is read
pub reads_from_closed : {p q : Reading} {at : Place} {ts : List Tok} → taken closed p ≡ good at q → Reads q ts → Reads p (closes ∷ ts)
reads_from_closed = reads_from_taken closed (λ at. closes) (elim [ word w ↦ λ at q e. tt | number n ↦ λ at q e. tt | opens ↦ λ at q e. tt | closes ↦ λ at q e ts r. reads_token e tt r | line_end ↦ λ at q e. tt | text_end ↦ λ at q e. tt ])

-- a number is read where it is spelled
pub numbered_from_reads : {p : Reading} {n : ℕ} {ts : List Tok} → Reads p (number n ∷ ts) → (q : Reading) × (at : Place) × (taken numbered p ≡ good (record { value = n; place = at }) q) × Reads q ts
numbered_from_reads = taken_from_reads numbered

-- and is spelled where it is read
pub reads_from_numbered : {p q : Reading} {m : Placed ℕ} {ts : List Tok} → taken numbered p ≡ good m q → Reads q ts → Reads p (number m.value ∷ ts)
reads_from_numbered = reads_from_taken numbered (λ m. number m.value) (elim [ word w ↦ λ at q e. tt | number n ↦ λ at q e ts r. reads_token e tt r | opens ↦ λ at q e. tt | closes ↦ λ at q e. tt | line_end ↦ λ at q e. tt | text_end ↦ λ at q e. tt ])

-- a word is read where it is spelled
pub named_from_reads : {p : Reading} {w : List ℕ} {ts : List Tok} → Reads p (word w ∷ ts) → (q : Reading) × (at : Place) × (taken named p ≡ good (record { bytes = w; place = at }) q) × Reads q ts
named_from_reads = taken_from_reads named

-- and is spelled where it is read
pub reads_from_named : {p q : Reading} {w : WordAt} {ts : List Tok} → taken named p ≡ good w q → Reads q ts → Reads p (word w.bytes ∷ ts)
reads_from_named = reads_from_taken named (λ w. word w.bytes) (elim [ word w ↦ λ at q e ts r. reads_token e tt r | number n ↦ λ at q e. tt | opens ↦ λ at q e. tt | closes ↦ λ at q e. tt | line_end ↦ λ at q e. tt | text_end ↦ λ at q e. tt ])

-- past the last token there is no line
lines_none : {ts : List Tok} {forms : List (List Tok)} → Lines ts forms → ts ≡ [] → forms ≡ []
lines_none no_line e = refl
lines_none (blank_line _) e = cc
lines_none last_form e = cc
lines_none (form_line _) e = cc

-- the end of a form's line is read where it is spelled
pub ended_from_reads : {p : Reading} {ts : List Tok} {forms : List (List Tok)} → Reads p ts → After ts forms → (q : Reading) × (us : List Tok) × (taken ended p ≡ good tt q) × Reads q us × Lines us forms
ended_from_reads {p} r (inl (none, no_forms)) =
    let (q, at, e) = none_read (subst (Reads p) none r) in
    (q, [], taken_is ended p e, reads_end (text_end_stays p q e), subst (Lines []) (sym no_forms) no_line)
ended_from_reads {p} r (inr (us, is, lines)) =
    let (q, at, e, more) = taken_from_reads ended (subst (Reads p) is r) in
    (q, us, e, more, lines)

-- and is spelled where it is read
pub reads_from_ended : {p q : Reading} {us : List Tok} {forms : List (List Tok)} → taken ended p ≡ good tt q → Reads q us → Lines us forms → (ts : List Tok) × Reads p ts × After ts forms
reads_from_ended {p} {us = us} {forms} e = gives_good P (taken_gives ended P p each) e
  where
    P : Unit {0} → Reading → Type 0
    P _ q = Reads q us → Lines us forms → (ts : List Tok) × Reads p ts × After ts forms

    each : (t : Tok) (at : Place) (q : Reading) → NextIs p t at q → Gives (ended t at q) P
    each (word w) at q e = tt
    each (number n) at q e = tt
    each opens at q e = tt
    each closes at q e = tt
    each line_end at q e = λ r lines. (line_end ∷ us, reads_token e tt r, inr (us, refl, lines))
    each text_end at q e = λ r lines. ([], reads_end e, inl (refl, lines_none lines (reads_nothing q (text_end_rest p q e) r)))

-- with more turns to go than bytes, a line begins with its first token
line_begins : (k : ℕ) (p : Reading) {t : Tok} {at : Place} {q : Reading} → length p.rest < k → NextIs p t at q → within_lines k p ≡ bind (begun t at q) (past_blank (within_lines (k - 1)))
line_begins zero p enough e = absurd (omega arith)
line_begins (suc k) p enough e =
    let less : suc k - 1 ≡ k = omega arith in
    rw (less, e) refl

-- the form is found past its blank lines, with more turns to go than bytes
form_within : {ts inner : List Tok} {forms : List (List Tok)} → Lines ts ((opens ∷ inner) ∷ forms) → (k : ℕ) (p : Reading) → length p.rest < k → Reads p ts → (q : Reading) × (tail : List Tok) × (within_lines k p ≡ good Form q) × Reads q (inner ++ tail) × After tail forms
form_within (blank_line lines) k p enough r =
    let (q, at, e, more) = first_read r in
    let shorter = token_shorter p q tt e in
    let (s, tail, is, inside, after) = form_within lines (k - 1) q (omega arith) more in
    (s, tail, line_begins k p enough e ∙ is, inside, after)
form_within (last_form {inner}) k p enough r =
    let (q, at, e, more) = first_read r in
    (q, [], line_begins k p enough e, rw append-nil more, inl (refl, refl))
form_within (form_line {inner} {ts} lines) k p enough r =
    let (q, at, e, more) = first_read r in
    (q, line_end ∷ ts, line_begins k p enough e, more, inr (ts, refl, lines))

-- and so is the end
end_within : {ts : List Tok} → Lines ts [] → (k : ℕ) (p : Reading) → length p.rest < k → Reads p ts → (q : Reading) × (at : Place) × (within_lines k p ≡ good (End at) q)
end_within no_line k p enough r =
    let (q, at, e) = none_read r in
    (q, at, line_begins k p enough e)
end_within (blank_line lines) k p enough r =
    let (q, at, e, more) = first_read r in
    let shorter = token_shorter p q tt e in
    let (s, at, is) = end_within lines (k - 1) q (omega arith) more in
    (s, at, line_begins k p enough e ∙ is)

-- the next form is found where it is spelled
pub form_from_reads : {p : Reading} {ts inner : List Tok} {forms : List (List Tok)} → Reads p ts → Lines ts ((opens ∷ inner) ∷ forms) → (q : Reading) × (tail : List Tok) × (next_form p ≡ good Form q) × Reads q (inner ++ tail) × After tail forms
unfolding next_form
form_from_reads {p} r lines = form_within lines (suc (length p.rest)) p (omega arith) r

-- the end is found where no form is spelled
pub end_from_reads : {p : Reading} {ts : List Tok} → Reads p ts → Lines ts [] → (q : Reading) × (at : Place) × (next_form p ≡ good (End at) q)
unfolding next_form
end_from_reads {p} r lines = end_within lines (suc (length p.rest)) p (omega arith) r

-- these forms are ahead: one whose bracket was just read, with what follows it, or none at the end
abbrev Ahead : List (List Tok) → Next → Reading → Type 0
Ahead forms Form q = (inner : List Tok) × (tail : List Tok) × (rest : List (List Tok)) × (forms ≡ (opens ∷ inner) ∷ rest) × Reads q (inner ++ tail) × After tail rest
Ahead forms (End at) q = forms ≡ []

-- some tokens are read from here, and their lines hold these forms
abbrev Spelled : Reading → List (List Tok) → Type 0
Spelled p forms = (ts : List Tok) × Reads p ts × Lines ts forms

-- a form and what follows it are lines
lines_form : (inner : List Tok) {tail : List Tok} {rest : List (List Tok)} → After tail rest → Lines (opens ∷ (inner ++ tail)) ((opens ∷ inner) ∷ rest)
lines_form inner (inl (none, no_forms)) = rw (none, no_forms, append-nil) last_form
lines_form inner (inr (us, is, lines)) = rw is (form_line lines)

-- if forms are ahead of what is found past blank lines, they are spelled here
abbrev Found : List (List Tok) → Reading → Next → Reading → Type 0
Found forms p n q = Ahead forms n q → Spelled p forms

-- so it is at a line's start, if it is so at the next
line_gives : (forms : List (List Tok)) (k : ℕ) (p : Reading) → ((q : Reading) → length q.rest < length p.rest → Gives (within_lines k q) (Found forms q)) → (t : Tok) (at : Place) (q : Reading) → NextIs p t at q → Gives (begun t at q) (λ s q. Gives (past_blank (within_lines k) s q) (Found forms p))
line_gives forms k p again (word w) at q e = tt
line_gives forms k p again (number n) at q e = tt
line_gives forms k p again opens at q e = λ (inner, tail, rest, is, r, after). (opens ∷ (inner ++ tail), reads_token e tt r, rw is (lines_form inner after))
line_gives forms k p again closes at q e = tt
line_gives forms k p again line_end at q e = gives_more (within_lines k q) (Found forms q) (Found forms p) (λ n s found ahead. let (ts, r, lines) = found ahead in (line_end ∷ ts, reads_token e tt r, blank_line lines)) (again q (token_shorter p q tt e))
line_gives forms k p again text_end at q e = λ none. ([], reads_end e, rw none no_line)

-- and with more turns to go than bytes it is so
within_gives : (forms : List (List Tok)) (k : ℕ) (p : Reading) → length p.rest < k → Gives (within_lines k p) (Found forms p)
within_gives forms zero p enough = absurd (omega arith)
within_gives forms (suc k) p enough =
    let each = line_gives forms k p (λ q shorter. within_gives forms k q (omega arith)) in
    bind_gives (taken begun p) (past_blank (within_lines k)) (Found forms p) (taken_gives begun (λ s q. Gives (past_blank (within_lines k) s q) (Found forms p)) p each)

-- forms that are ahead of what is found next are spelled here
found_spelled : (p : Reading) {n : Next} {q : Reading} (forms : List (List Tok)) → next_form p ≡ good n q → Ahead forms n q → Spelled p forms
unfolding next_form
found_spelled p forms e = gives_good (Found forms p) (within_gives forms (suc (length p.rest)) p (omega arith)) e

-- the form that is found is spelled
pub reads_from_form : {p q : Reading} (inner : List Tok) {tail : List Tok} {forms : List (List Tok)} → next_form p ≡ good Form q → Reads q (inner ++ tail) → After tail forms → (ts : List Tok) × Reads p ts × Lines ts ((opens ∷ inner) ∷ forms)
reads_from_form {p} inner {tail} {forms} e r after = found_spelled p ((opens ∷ inner) ∷ forms) e (inner, tail, forms, refl, r, after)

-- at the end that is found no form is spelled
pub reads_from_end : {p q : Reading} {at : Place} → next_form p ≡ good (End at) q → (ts : List Tok) × Reads p ts × Lines ts []
reads_from_end {p} e = found_spelled p [] e refl

-- each form has a token, so that there are no more forms than tokens
pub length_lines : {ts : List Tok} {forms : List (List Tok)} → Lines ts forms → length forms ≤ length ts
length_lines no_line = omega arith
length_lines (blank_line l) = let h = length_lines l in omega arith
length_lines last_form = omega arith
length_lines (form_line {inner} {ts} l) = let h = length_lines l in omega (arith, length-append inner (line_end ∷ ts))

-- Steps of reading forms: what two in a row, a test, a number in a range and the end of a form give.
use Rattle.std.proofs.Common.{◌≡◌, ℕ, ◌<◌, ◌≤◌, Bool, true, false, cond, ◌&&◌, ltb, leb, List, ◌∷◌, sym, refl, subst, arith}
use Rattle.std.proofs.lemmas.Bool.{and_parts, and_from, leb-true, le-leb, ltb-true, lt-ltb}
use Rattle.words.specs.Numbers.{Refused}
use Rattle.words.specs.Words.{Tok, number, closes, Reading, Out, good, bad, bind}
use Rattle.words.proofs.Tokens.{Reads}
use Rattle.forms.specs.Forms.{beyond, closed, ended, form_end, number_in, numbered, taken}
use Rattle.forms.specs.Lines.{Lines}
use Rattle.forms.proofs.Spelled.{After, closed_from_reads, reads_from_closed, numbered_from_reads, reads_from_numbered, ended_from_reads, reads_from_ended}

-- what a step that did not refuse gives
pub good_value : {A : Type 0} {a b : A} {p q : Reading} → good a p ≡ good b q → a ≡ b
good_value h = cc

pub good_reading : {A : Type 0} {a b : A} {p q : Reading} → good a p ≡ good b q → p ≡ q
good_reading h = cc

-- the steps of two in a row
pub bind_parts : {A B : Type 0} (o : Out A) (f : A → Reading → Out B) (b : B) (q : Reading) → bind o f ≡ good b q → (a : A) × (p : Reading) × (o ≡ good a p) × (f a p ≡ good b q)
bind_parts (good a p) f b q e = (a, p, refl, e)
bind_parts (bad r) f b q e = cc

-- a test that chose a value
pub cond_good : {A : Type 0} (t : Bool) (a b : A) (p q : Reading) (r : Refused) → cond t (good a p) (bad r) ≡ good b q → (t ≡ true) × (a ≡ b) × (p ≡ q)
cond_good true a b p q r e = (refl, good_value e, good_reading e)
cond_good false a b p q r e = cc

-- a number in its range
pub number_from_reads : {p : Reading} {n : ℕ} {ts : List Tok} (low end : ℕ) → low ≤ n → n < end → Reads p (number n ∷ ts) → (q : Reading) × (number_in low end p ≡ good n q) × Reads q ts
number_from_reads {n = n} low end l h r =
    let (q, at, e, s) = numbered_from_reads r in
    let t = and_from (leb low n) (ltb n end) (le-leb low n l) (lt-ltb n end h) in
    (q, rw (e, t) refl, s)

pub number_parts : {p q : Reading} {n : ℕ} (low end : ℕ) → number_in low end p ≡ good n q → (low ≤ n) × (n < end) × ((ts : List Tok) → Reads q ts → Reads p (number n ∷ ts))
number_parts {p} {q} {n} low end e =
    let (m, s, t, k) = bind_parts (taken numbered p) (λ n q. cond (leb low n.value && ltb n.value end) (good n.value q) (beyond 7 n.place q)) n q e in
    let g = cond_good (leb low m.value && ltb m.value end) m.value n s q _ k in
    let b = and_parts (leb low m.value) (ltb m.value end) g.0 in (
      omega (arith, leb-true low m.value b.0, g.1),
      omega (arith, ltb-true m.value end b.1, g.1),
      (λ ts r. subst (λ (x : ℕ). Reads p (number x ∷ ts)) g.1 (reads_from_numbered t (subst (λ (x : Reading). Reads x ts) (sym g.2) r))),
    )

pub reads_from_number : {p q : Reading} {n : ℕ} {ts : List Tok} (low end : ℕ) → number_in low end p ≡ good n q → Reads q ts → (low ≤ n) × (n < end) × Reads p (number n ∷ ts)
reads_from_number {ts = ts} low end e r = let (l, h, reads) = number_parts low end e in (l, h, reads ts r)

-- the end of a form and of its line
pub form_end_from_reads : {p : Reading} {ts : List Tok} {forms : List (List Tok)} → Reads p (closes ∷ ts) → After ts forms → (q : Reading) × (us : List Tok) × (form_end p ≡ good tt q) × Reads q us × Lines us forms
form_end_from_reads r a =
    let (q, at, e, s) = closed_from_reads r in
    let (x, us, f, t, l) = ended_from_reads s a in
    (x, us, rw (e, f) refl, t, l)

pub reads_from_form_end : {p q : Reading} {us : List Tok} {forms : List (List Tok)} {x : Unit {0}} → form_end p ≡ good x q → Reads q us → Lines us forms → (ts : List Tok) × Reads p (closes ∷ ts) × After ts forms
reads_from_form_end {p} {q} {us} {forms} {x} e r l =
    let (at, s, c, k) = bind_parts (taken closed p) (λ _ q. taken ended q) x q e in
    let (ts, t, a) = reads_from_ended k r l in
    (ts, reads_from_closed c t, a)

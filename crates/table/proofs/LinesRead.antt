-- Lines of a table: what is read is what is spelled, and what is spelled is read.
use Rattle.std.proofs.Common.{◌≡◌, ℕ, zero, suc, ◌<◌, ◌≤◌, Bool, true, false, cond, eqb, List, [], ◌∷◌, ◌++◌, map, length, Some, None, codes, Option, sym, refl, ap, ◌∙◌, subst, arith}
use Rattle.std.proofs.lemmas.Slice.Eq.{bytes_eq-Decides}
use Rattle.std.proofs.lemmas.Bool.{eqb-true, eq-eqb}
use Rattle.std.specs.Str.{bytes_eq}
use Rattle.words.specs.declared.fault.Place.{Place}
use Rattle.words.specs.declared.token.Placed.{Placed}
use Rattle.words.specs.Words.{Tok, word, number, opens, closes, Reading, good}
use Rattle.words.proofs.Tokens.{Reads}
use Rattle.forms.specs.declared.form.Next.{Next}
use Rattle.forms.specs.declared.form.Next.TheVariants.{Form, End}
use Rattle.forms.specs.Forms.{beyond, form_end, named, number_in, next_form, taken}
use Rattle.forms.specs.Lines.{Lines}
use Rattle.forms.proofs.Steps.{good_value, good_reading, bind_parts, cond_good, number_from_reads, reads_from_number, form_end_from_reads, reads_from_form_end}
use Rattle.forms.proofs.Spelled.{After, named_from_reads, reads_from_named, form_from_reads, reads_from_form, end_from_reads, reads_from_end}
use Rattle.std.specs.List.{AllByRecursion}
use Rattle.table.specs.declared.contents.Counts.{Counts}
use Rattle.table.specs.declared.contents.Entry.{Entry}
use Rattle.table.specs.declared.contents.Entry.TheVariants.{Mark, Arc}
use Rattle.table.specs.declared.contents.Keyword.{Keyword}
use Rattle.table.specs.declared.contents.Keyword.TheVariants as key
use Rattle.table.specs.Table.{key_of, keyed, key_at, key_number, in_order, head_form, head_line, head_at, entry_by, entry_form, entry_line, entry_at, and_more, within_entries}
use Rattle.table.specs.Grammar.{head_tokens, entry_tokens, EntryFits}

-- the table's words
abbrev pub name_of : Keyword → List ℕ
name_of key.Modes = codes "modes"
name_of key.Commands = codes "commands"
name_of key.Flags = codes "flags"
name_of key.Mark = codes "mark"
name_of key.Arc = codes "arc"

key_of_name : (k : Keyword) → key_of (name_of k) ≡ Some k
key_of_name key.Modes = refl
key_of_name key.Commands = refl
key_of_name key.Flags = refl
key_of_name key.Mark = refl
key_of_name key.Arc = refl

some_name : (w name : List ℕ) (k j : Keyword) (others : Option Keyword) → (others ≡ Some k → w ≡ name_of k) → name ≡ name_of j → cond (bytes_eq w name) (Some j) others ≡ Some k → w ≡ name_of k
some_name w name k j others rest is e = by (bytes_eq w name) refl e
  where
    by : (t : Bool) → bytes_eq w name ≡ t → cond t (Some j) others ≡ Some k → w ≡ name_of k
    by true h f = let same : j ≡ k = cc in (bytes_eq-Decides w name).0 h ∙ is ∙ ap name_of same
    by false h f = rest f

name_of_key : (w : List ℕ) (k : Keyword) → key_of w ≡ Some k → w ≡ name_of k
name_of_key w k e =
    some_name w (codes "modes") k key.Modes _
    (some_name w (codes "commands") k key.Commands _
    (some_name w (codes "flags") k key.Flags _
    (some_name w (codes "mark") k key.Mark _
    (some_name w (codes "arc") k key.Arc _ (λ n. cc) refl)
    refl)
    refl)
    refl)
    refl e

-- one of the table's words
key_from_reads : {p : Reading} {ts : List Tok} (k : Keyword) → Reads p (word (name_of k) ∷ ts) → (q : Reading) × (at : Place) × (key_at p ≡ good (record { value = k; place = at }) q) × Reads q ts
key_from_reads k r =
    let (q, at, e, s) = named_from_reads r in
    (q, at, rw (e, key_of_name k) refl, s)

keyed_good : (o : Option Keyword) (at : Place) (p q : Reading) (h : Placed Keyword) → keyed o at p ≡ good h q → (o ≡ Some h.value) × (p ≡ q)
keyed_good (Some k) at p q h e = (ap (λ (x : Placed Keyword). Some x.value) (good_value e), good_reading e)
keyed_good None at p q h e = cc

reads_from_key : {p q : Reading} {h : Placed Keyword} {ts : List Tok} → key_at p ≡ good h q → Reads q ts → Reads p (word (name_of h.value) ∷ ts)
reads_from_key {p} {q} {h} {ts} e r =
    let (w, s, n, k) = bind_parts (taken named p) (λ w q. keyed (key_of w.bytes) w.place q) h q e in
    let g = keyed_good (key_of w.bytes) w.place s q h k in
    subst (λ (x : List ℕ). Reads p (word x ∷ ts)) (name_of_key w.bytes h.value g.0) (reads_from_named n (subst (λ (x : Reading). Reads x ts) (sym g.1) r))

-- the right head
in_order_from : (k : Keyword) (at : Place) (p : Reading) → in_order k (record { value = k; place = at }) p ≡ good tt p
in_order_from k at p = ap (λ b. cond b (good tt p) (beyond 6 at p)) (eq-eqb (key_number k) (key_number k) refl)

-- the word of a number, so that a number is of one word
key_by : ℕ → Keyword
key_by zero = key.Modes
key_by (suc zero) = key.Commands
key_by (suc (suc zero)) = key.Flags
key_by (suc (suc (suc zero))) = key.Mark
key_by (suc (suc (suc (suc n)))) = key.Arc

key_by_number : (k : Keyword) → key_by (key_number k) ≡ k
unfolding key_by
key_by_number key.Modes = refl
key_by_number key.Commands = refl
key_by_number key.Flags = refl
key_by_number key.Mark = refl
key_by_number key.Arc = refl

in_order_key : (k : Keyword) (h : Placed Keyword) (p q : Reading) (x : Unit {0}) → in_order k h p ≡ good x q → (h.value ≡ k) × (p ≡ q)
in_order_key k h p q x e =
    let g = cond_good (eqb (key_number k) (key_number h.value)) tt x p q _ e in
    let n = eqb-true (key_number k) (key_number h.value) g.0 in
    (sym (key_by_number h.value) ∙ ap key_by (sym n) ∙ key_by_number k, g.2)

-- a head, as a line
pub head_from_reads : {p : Reading} {ts : List Tok} {forms : List (List Tok)} (k : Keyword) (low end n : ℕ) → low ≤ n → n < end → Reads p ts → Lines ts (head_tokens (name_of k) n ∷ forms) → (q : Reading) × (us : List Tok) × (head_at k low end p ≡ good n q) × Reads q us × Lines us forms
head_from_reads k low end n l h r lines =
    let (p1, tail, e1, r1, a) = form_from_reads r lines in
    let (p2, at, e2, r2) = key_from_reads k r1 in
    let (p3, e3, r3) = number_from_reads low end l h r2 in
    let (p4, us, e4, r4, more) = form_end_from_reads r3 a in
    (p4, us, rw (e1, e2, in_order_from k at p2, e3, e4) refl, r4, more)

-- what follows the bracket of a head
reads_from_head_form : {p q : Reading} {us : List Tok} {forms : List (List Tok)} (k : Keyword) (low end n : ℕ) → head_form k low end p ≡ good n q → Reads q us → Lines us forms → (ts : List Tok) × (low ≤ n) × (n < end) × Reads p (word (name_of k) ∷ (number n ∷ (closes ∷ ts))) × After ts forms
reads_from_head_form {p} {q} {us} {forms} k low end n e r lines =
    let (h, p1, e1, f1) = bind_parts (key_at p) _ n q e in
    let (x, p2, e2, f2) = bind_parts (in_order k h p1) _ n q f1 in
    let (m, p3, e3, f3) = bind_parts (number_in low end p2) _ n q f2 in
    let (y, p4, e4, f4) = bind_parts (form_end p3) _ n q f3 in
    let o = in_order_key k h p1 p2 x e2 in
    let (ts, r4, a) = reads_from_form_end e4 (subst (λ (z : Reading). Reads z us) (sym (good_reading f4)) r) lines in
    let (l, b, r3) = reads_from_number low end e3 r4 in
    let r2 = reads_from_key e1 (subst (λ (z : Reading). Reads z (number m ∷ (closes ∷ ts))) (sym o.1) r3) in
    let v = good_value f4 in
    (ts, omega (arith, l, v), omega (arith, b, v), subst (λ (z : ℕ). Reads p (word (name_of k) ∷ (number z ∷ (closes ∷ ts)))) v (subst (λ (z : Keyword). Reads p (word (name_of z) ∷ (number m ∷ (closes ∷ ts)))) o.0 r2), a)

reads_from_head_line : {p q : Reading} {us : List Tok} {forms : List (List Tok)} (k : Keyword) (low end n : ℕ) (next : Next) (s : Reading) → next_form p ≡ good next s → head_line k low end next s ≡ good n q → Reads q us → Lines us forms → (ts : List Tok) × (low ≤ n) × (n < end) × Reads p ts × Lines ts (head_tokens (name_of k) n ∷ forms)
reads_from_head_line k low end n Form s f e r lines =
    let (tail, l, h, t, a) = reads_from_head_form k low end n e r lines in
    let (ts, read, all) = reads_from_form (word (name_of k) ∷ (number n ∷ (closes ∷ []))) f t a in
    (ts, l, h, read, all)
reads_from_head_line k low end n (End at) s f e r lines = cc

pub reads_from_head : {p q : Reading} {us : List Tok} {forms : List (List Tok)} (k : Keyword) (low end n : ℕ) → head_at k low end p ≡ good n q → Reads q us → Lines us forms → (ts : List Tok) × (low ≤ n) × (n < end) × Reads p ts × Lines ts (head_tokens (name_of k) n ∷ forms)
reads_from_head {p} {q} k low end n e r lines =
    let (next, s, f, g) = bind_parts (next_form p) (head_line k low end) n q e in
    reads_from_head_line k low end n next s f g r lines

-- a mark or an arc, after its bracket
abbrev inner : Entry → List Tok → List Tok
inner (Mark p u) ts = word (codes "mark") ∷ (number p ∷ (number u ∷ (closes ∷ ts)))
inner (Arc a u v) ts = word (codes "arc") ∷ (number a ∷ (number u ∷ (number v ∷ (closes ∷ ts))))

zero_le : (n : ℕ) → 0 ≤ n
zero_le n = omega arith

entry_form_from_reads : {p : Reading} {ts : List Tok} (c : Counts) (e : Entry) → EntryFits c e → Reads p (inner e ts) → (q : Reading) × (entry_form c p ≡ good e q) × Reads q (closes ∷ ts)
entry_form_from_reads c (Mark f u) fits r =
    let (p1, at, e1, r1) = key_from_reads key.Mark r in
    let (p2, e2, r2) = number_from_reads 0 c.flags (zero_le f) fits.0 r1 in
    let (p3, e3, r3) = number_from_reads 0 c.modes (zero_le u) fits.1 r2 in
    (p3, rw (e1, e2, e3) refl, r3)
entry_form_from_reads c (Arc a u v) fits r =
    let (p1, at, e1, r1) = key_from_reads key.Arc r in
    let (p2, e2, r2) = number_from_reads 0 c.commands (zero_le a) fits.0 r1 in
    let (p3, e3, r3) = number_from_reads 0 c.modes (zero_le u) fits.1 r2 in
    let (p4, e4, r4) = number_from_reads 0 c.modes (zero_le v) fits.2 r3 in
    (p4, rw (e1, e2, e3, e4) refl, r4)

-- an entry that was read after its word, and the tokens that follow its word
record EntryRead (c : Counts) (k : Keyword) (e : Entry) (p : Reading) (ts : List Tok) : Type 0 where
  fits : EntryFits c e
  tokens : List Tok
  spelled : inner e ts ≡ word (name_of k) ∷ tokens
  reads : Reads p tokens

entry_by_read : {p q : Reading} {ts : List Tok} (c : Counts) (h : Placed Keyword) (k : Keyword) (e : Entry) → entry_by c h k p ≡ good e q → Reads q (closes ∷ ts) → EntryRead c k e p ts
entry_by_read c h key.Modes e f r = cc
entry_by_read c h key.Commands e f r = cc
entry_by_read c h key.Flags e f r = cc
entry_by_read {p} {q} {ts} c h key.Mark e f r =
    let (a, p1, e1, f1) = bind_parts (number_in 0 c.flags p) _ e q f in
    let (u, p2, e2, f2) = bind_parts (number_in 0 c.modes p1) _ e q f1 in
    let is = good_value f2 in
    let (l2, b2, r2) = reads_from_number 0 c.modes e2 (subst (λ (z : Reading). Reads z (closes ∷ ts)) (sym (good_reading f2)) r) in
    let (l1, b1, r1) = reads_from_number 0 c.flags e1 r2 in
    record {
      fits = subst (EntryFits c) is (b1, b2);
      tokens = number a ∷ (number u ∷ (closes ∷ ts));
      spelled = ap (λ (x : Entry). inner x ts) (sym is);
      reads = r1;
    }
entry_by_read {p} {q} {ts} c h key.Arc e f r =
    let (a, p1, e1, f1) = bind_parts (number_in 0 c.commands p) _ e q f in
    let (u, p2, e2, f2) = bind_parts (number_in 0 c.modes p1) _ e q f1 in
    let (v, p3, e3, f3) = bind_parts (number_in 0 c.modes p2) _ e q f2 in
    let is = good_value f3 in
    let (l3, b3, r3) = reads_from_number 0 c.modes e3 (subst (λ (z : Reading). Reads z (closes ∷ ts)) (sym (good_reading f3)) r) in
    let (l2, b2, r2) = reads_from_number 0 c.modes e2 r3 in
    let (l1, b1, r1) = reads_from_number 0 c.commands e1 r2 in
    record {
      fits = subst (EntryFits c) is (b1, b2, b3);
      tokens = number a ∷ (number u ∷ (number v ∷ (closes ∷ ts)));
      spelled = ap (λ (x : Entry). inner x ts) (sym is);
      reads = r1;
    }

reads_from_entry_form : {p q : Reading} {ts : List Tok} (c : Counts) (e : Entry) → entry_form c p ≡ good e q → Reads q (closes ∷ ts) → EntryFits c e × Reads p (inner e ts)
reads_from_entry_form {p} {q} {ts} c e f r =
    let (h, p1, e1, f1) = bind_parts (key_at p) _ e q f in
    let x = entry_by_read c h h.value e f1 r in
    (x.fits, subst (Reads p) (sym x.spelled) (reads_from_key e1 x.reads))

-- an entry, as a line
inner_tokens : (e : Entry) (ts : List Tok) → (front : List Tok) × (entry_tokens e ≡ opens ∷ front) × (front ++ ts ≡ inner e ts)
inner_tokens (Mark p u) ts = (word (codes "mark") ∷ (number p ∷ (number u ∷ (closes ∷ []))), refl, refl)
inner_tokens (Arc a u v) ts = (word (codes "arc") ∷ (number a ∷ (number u ∷ (number v ∷ (closes ∷ [])))), refl, refl)

entry_from_reads : {p : Reading} {ts : List Tok} {forms : List (List Tok)} (c : Counts) (e : Entry) → EntryFits c e → Reads p ts → Lines ts (entry_tokens e ∷ forms) → (q : Reading) × (us : List Tok) × (entry_at c p ≡ good (Some e) q) × Reads q us × Lines us forms
entry_from_reads {p} {ts} {forms} c e fits r lines =
    let (front, is, _) = inner_tokens e [] in
    let (p1, tail, e1, r1, a) = form_from_reads r (subst (λ (x : List Tok). Lines ts (x ∷ forms)) is lines) in
    let (front2, is2, joined) = inner_tokens e tail in
    let same : front ≡ front2 = (let h = sym is ∙ is2 in cc) in
    let (p2, e2, r2) = entry_form_from_reads c e fits (subst (Reads p1) (ap (λ (x : List Tok). x ++ tail) same ∙ joined) r1) in
    let (p3, us, e3, r3, more) = form_end_from_reads r2 a in
    (p3, us, rw (e1, e2, e3) refl, r3, more)

none_from_reads : {p : Reading} {ts : List Tok} (c : Counts) → Reads p ts → Lines ts [] → (q : Reading) × (entry_at c p ≡ good None q)
none_from_reads c r lines =
    let (q, at, e) = end_from_reads r lines in
    (q, rw e refl)

-- what was read of one line
abbrev LineRead : Counts → Option Entry → Reading → Reading → Type 0
LineRead c (Some e) p q = (us : List Tok) (forms : List (List Tok)) → Reads q us → Lines us forms → (ts : List Tok) × EntryFits c e × Reads p ts × Lines ts (entry_tokens e ∷ forms)
LineRead c None p q = (ts : List Tok) × Reads p ts × Lines ts []

entry_line_read : (p : Reading) (c : Counts) (next : Next) (s q : Reading) (o : Option Entry) → next_form p ≡ good next s → entry_line c next s ≡ good o q → LineRead c o p q
entry_line_read p c (End at) s q o f e = subst (λ (x : Option Entry). LineRead c x p q) (good_value e) (reads_from_end f)
entry_line_read p c Form s q o f e =
    let (x, p1, e1, f1) = bind_parts (entry_form c s) _ o q e in
    let (y, p2, e2, f2) = bind_parts (form_end p1) _ o q f1 in
    subst (λ (z : Option Entry). LineRead c z p q) (good_value f2) (λ us forms r lines.
    let (ts, r1, a) = reads_from_form_end e2 (subst (λ (z : Reading). Reads z us) (sym (good_reading f2)) r) lines in
    let (fits, r2) = reads_from_entry_form c x e1 r1 in
    let (front, is, joined) = inner_tokens x ts in
    let (all, read, more) = reads_from_form front f (subst (Reads s) (sym joined) r2) a in
    (all, fits, read, subst (λ (z : List Tok). Lines all (z ∷ forms)) (sym is) more))

entry_read : (p q : Reading) (c : Counts) (o : Option Entry) → entry_at c p ≡ good o q → LineRead c o p q
entry_read p q c o e =
    let (next, s, f, g) = bind_parts (next_form p) (entry_line c) o q e in
    entry_line_read p c next s q o f g

-- all entries
pub entries_from_reads : (k : ℕ) (c : Counts) (es : List Entry) {p : Reading} {ts : List Tok} → length es < k → AllByRecursion (EntryFits c) es → Reads p ts → Lines ts (map entry_tokens es) → (q : Reading) × (within_entries k c p ≡ good es q)
entries_from_reads zero c es lt fits r lines = absurd (omega arith)
entries_from_reads (suc k) c [] lt fits r lines =
    let (q, e) = none_from_reads c r lines in
    (q, rw e refl)
entries_from_reads (suc k) c (x ∷ es) lt fits r lines =
    let (q, us, e, s, more) = entry_from_reads c x fits.0 r lines in
    let (t, rest) = entries_from_reads k c es (omega arith) fits.1 s more in
    (t, rw (e, rest) refl)

abbrev EntriesRead : Counts → List Entry → Reading → Type 0
EntriesRead c es p = (ts : List Tok) × AllByRecursion (EntryFits c) es × Reads p ts × Lines ts (map entry_tokens es)

and_more_read : (p q s : Reading) (k : ℕ) (c : Counts) (o : Option Entry) (es : List Entry) → ((p q : Reading) (es : List Entry) → within_entries k c p ≡ good es q → EntriesRead c es p) → LineRead c o p s → and_more (within_entries k c) o s ≡ good es q → EntriesRead c es p
and_more_read p q s k c None es others line e = let (ts, r, l) = line in subst (λ (x : List Entry). EntriesRead c x p) (good_value e) (ts, tt, r, l)
and_more_read p q s k c (Some x) es others line e =
    let (xs, t, f, g) = bind_parts (within_entries k c s) _ es q e in
    let (us, fits, r, l) = others s t xs f in
    let (ts, fit, read, lines) = line us (map entry_tokens xs) r l in
    subst (λ (y : List Entry). EntriesRead c y p) (good_value g) (ts, (fit, fits), read, lines)

pub entries_read : (k : ℕ) (c : Counts) (p q : Reading) (es : List Entry) → within_entries k c p ≡ good es q → EntriesRead c es p
entries_read zero c p q es e = cc
entries_read (suc k) c p q es e =
    let (o, s, f, g) = bind_parts (entry_at c p) _ es q e in
    and_more_read p q s k c o es (entries_read k c) (entry_read p s c o f) g

-- The tokens that reading gives up to the text's end are those that the text spells.
use Rattle.std.proofs.Common.{◌≡◌, ℕ, suc, ◌+◌, ◌<◌, ◌≤◌, Bool, true, false, cond, ◌&&◌, ◌||◌, eqb, leb, List, [], ◌∷◌, ◌++◌, length, take, drop, Some, None, Ok, Err, Result, sym, refl, ap, ◌∙◌, subst, inl, inr, add-zero, arith, length-append}
use Rattle.std.specs.List.{list_all, prefix_len}
use Rattle.std.specs.Char.{is_ascii_digit, is_ascii_alphabetic, is_ascii_alphanumeric}
use Rattle.std.proofs.lemmas.List.{drop_at, take_at, take-append-drop}
use Rattle.std.proofs.lemmas.Bool.{eqb-true, eqb-false, ne_eqb, leb-true, le-leb, or_left, or_right, and_parts, and_from, cases_Bool, cond_both}
use Rattle.std.proofs.lemmas.Bool.Decides.{nat_tests}
use Rattle.words.specs.declared.fault.Place.{Place}
use Rattle.words.specs.declared.fault.Reason.{Reason}
use Rattle.words.specs.declared.fault.Reason.TheVariants.{BadWord}
use Rattle.words.specs.Words.{Tok, word, number, opens, closes, line_end, text_end, TokenAt, Reading, Out, good, bad, number_of, number_token, run_length, run_token, read_run, run_from, classify, token_from, moved, here, next_token}
use Rattle.words.specs.Spelling.{Numeral, one_digit, two_digits, three_digits, Letters, RunSpells, run_number, run_word, RunEnds, Spells, spells_nothing, spells_space, spells_line_end, spells_opens, spells_closes, spells_run}
use Rattle.words.proofs.Runs.{run_good}

-- any token but the text's end
abbrev pub Real : Tok → Type 0
Real (word w) = Unit {0}
Real (number n) = Unit {0}
Real opens = Unit {0}
Real closes = Unit {0}
Real line_end = Unit {0}
Real text_end = ⊥

-- the tokens that reading gives from here to the text's end
pub data Reads : Reading → List Tok → Type 0 where
  reads_end : {p q : Reading} {at : Place} → next_token p ≡ good (record { tok = text_end; place = at }) q → Reads p []
  reads_token : {p q : Reading} {at : Place} {t : Tok} {ts : List Tok} → next_token p ≡ good (record { tok = t; place = at }) q → Real t → Reads q ts → Reads p (t ∷ ts)

-- reading that ends gives no token
pub none_read : {p : Reading} → Reads p [] → (q : Reading) × (at : Place) × (next_token p ≡ good (record { tok = text_end; place = at }) q)
none_read (reads_end {q = q} {at = at} e) = (q, at, e)

-- the first token that reading gives, and where the others are read
pub first_read : {p : Reading} {t : Tok} {ts : List Tok} → Reads p (t ∷ ts) → (q : Reading) × (at : Place) × (next_token p ≡ good (record { tok = t; place = at }) q) × Reads q ts
first_read (reads_token {q = q} {at = at} e real r) = (q, at, e, r)

-- reading depends on nothing but the next token
reads_like : {p q : Reading} {ts : List Tok} → next_token p ≡ next_token q → Reads q ts → Reads p ts
reads_like same (reads_end e) = reads_end (same ∙ e)
reads_like same (reads_token e real r) = reads_token (same ∙ e) real r

-- a place in a text, by its parts
abbrev at : List ℕ → ℕ → ℕ → ℕ → Reading
at bs l c x = record { rest = bs; line = l; column = c; text = x }

-- a test and what each way of it gives
by_test : {A G : Type 0} (b : Bool) {x y z : A} → (b ≡ true → x ≡ z → G) → (b ≡ false → y ≡ z → G) → cond b x y ≡ z → G
by_test true f g e = f refl e
by_test false f g e = g refl e

-- a result is one
ok_value : {t u : Tok} → ◌≡◌ {A = Result Tok Reason} (Ok t) (Ok u) → t ≡ u
ok_value e = cc

-- std counts from the front
one_more : (n : ℕ) → 1 + n ≡ suc n
one_more n = omega arith

-- the next token behind a space is the next token
past_space : (bs : List ℕ) (l c x : ℕ) → next_token (at (32 ∷ bs) l c x) ≡ next_token (at bs l (c + 1) x)
unfolding next_token
past_space bs l c x =
    let n = prefix_len (λ b. eqb b 32) bs in
    let e : c + suc n ≡ c + 1 + n = omega arith in
    rw one_more (ap (λ (k : ℕ). token_from (drop n bs) (at (drop n bs) l k x)) e)

-- a byte that is no space begins the next token
no_space : (b : ℕ) (bs : List ℕ) (l c x : ℕ) → eqb b 32 ≡ false → next_token (at (b ∷ bs) l c x) ≡ classify b (at (b ∷ bs) l c x)
unfolding next_token
no_space b bs l c x h = rw (h, add-zero) refl

-- a letter is no digit
letter_no_digit : (b : ℕ) → is_ascii_alphabetic b ≡ true → is_ascii_digit b ≡ false
letter_no_digit b h = grind (arith, nat_tests)

-- letters and digits are one class of std
same_classes : (b : ℕ) → is_ascii_alphanumeric b ≡ (is_ascii_alphabetic b || is_ascii_digit b)
same_classes b = grind (arith, nat_tests)

-- a letter or a digit is neither a space nor a mark
module _ (b : ℕ) (h : is_ascii_alphanumeric b ≡ true) where
  run_no_space : eqb b 32 ≡ false
  run_no_space = grind (arith, nat_tests)

  run_no_mark : (p : Reading) → classify b p ≡ run_from p
  run_no_mark p =
      let n : eqb b 10 ≡ false = grind (arith, nat_tests) in
      let o : eqb b 40 ≡ false = grind (arith, nat_tests) in
      let c : eqb b 41 ≡ false = grind (arith, nat_tests) in
      rw (n, o, c) refl

-- all bytes pass the test
abbrev Full : (ℕ → Bool) → List ℕ → Type 0
Full p bs = list_all p bs ≡ true

-- one byte more that passes, and one less
full_cons : (p : ℕ → Bool) (b : ℕ) (bs : List ℕ) → p b ≡ true → Full p bs → Full p (b ∷ bs)
full_cons p b bs h all = and_from (p b) (list_all p bs) h all

full_parts : (p : ℕ → Bool) (b : ℕ) (bs : List ℕ) → Full p (b ∷ bs) → (p b ≡ true) × Full p bs
full_parts p b bs all = and_parts (p b) (list_all p bs) all

-- letters pass each test that the letters pass, and a numeral each that the digits pass
full_letters : (p : ℕ → Bool) → ((b : ℕ) → is_ascii_alphabetic b ≡ true → p b ≡ true) → (run : List ℕ) → Letters run → Full p run
full_letters p wider [] all = refl
full_letters p wider (b ∷ run) (h, all) = full_cons p b run (wider b h) (full_letters p wider run all)

full_numeral : (p : ℕ → Bool) → ((b : ℕ) → is_ascii_digit b ≡ true → p b ≡ true) → {run : List ℕ} {n : ℕ} → Numeral run n → Full p run
full_numeral p wider (one_digit {a} f) = full_cons p a [] (wider a f) refl
full_numeral p wider (two_digits {a} {b} f g _) = full_cons p a (b ∷ []) (wider a f) (full_cons p b [] (wider b g) refl)
full_numeral p wider (three_digits {a} {b} {c} f g h _) = full_cons p a (b ∷ c ∷ []) (wider a f) (full_cons p b (c ∷ []) (wider b g) (full_cons p c [] (wider c h) refl))

-- a run is of letters and digits alone
full_run : {run : List ℕ} {t : Tok} → RunSpells run t → Full is_ascii_alphanumeric run
full_run (run_number n) = full_numeral is_ascii_alphanumeric (λ b h. same_classes b ∙ or_right (is_ascii_alphabetic b) (is_ascii_digit b) h) n
full_run (run_word {run} all _ _) = full_letters is_ascii_alphanumeric (λ b h. same_classes b ∙ or_left (is_ascii_alphabetic b) (is_ascii_digit b) h) run all

-- bytes that all pass, before one that does not
prefix_join : (p : ℕ → Bool) (run bs : List ℕ) → Full p run → prefix_len p bs ≡ 0 → prefix_len p (run ++ bs) ≡ length run
prefix_join p [] bs full stop = stop
prefix_join p (b ∷ run) bs full stop =
    let (h, more) = full_parts p b run full in
    let rest = prefix_join p run bs more stop in
    rw h (omega arith)

-- what ends a run begins none
ends_stop : (bs : List ℕ) → RunEnds bs → run_length bs ≡ 0
ends_stop [] _ = refl
ends_stop (b ∷ bs) h = let none = same_classes b ∙ h in rw none refl

-- the number of a numeral
numeral_number : {run : List ℕ} {n : ℕ} → Numeral run n → number_of run ≡ Some n
numeral_number (one_digit _) = refl
numeral_number (two_digits {a} _ _ h) = let z = ne_eqb a 48 h in rw z refl
numeral_number (three_digits {a} _ _ _ h) = let z = ne_eqb a 48 h in rw z refl

-- letters write no number
letters_no_number : (run : List ℕ) → Letters run → 1 ≤ length run → list_all is_ascii_digit run ≡ false
letters_no_number [] all some = absurd (omega arith)
letters_no_number (b ∷ run) (h, all) some = let d = letter_no_digit b h in rw d refl

-- what a run spells is the token that the program takes it for
run_from_spells : {run : List ℕ} {t : Tok} → RunSpells run t → run_token run ≡ Ok t
run_from_spells (run_number {run} {n} h) =
    let d = full_numeral is_ascii_digit (λ b h. h) h in
    let v = numeral_number h in
    rw (d, v) refl
run_from_spells (run_word {run} all some short) =
    let d = letters_no_number run all some in
    let f = full_letters is_ascii_alphabetic (λ b h. h) run all in
    let s = le-leb (length run) 8 short in
    rw (d, s, f) refl

-- a run and what ends it, read
run_read : (run bs : List ℕ) (t : Tok) → Full is_ascii_alphanumeric run → run_token run ≡ Ok t → RunEnds bs → (l c x : ℕ) → next_token (at (run ++ bs) l c x) ≡ good (record { tok = t; place = record { line = l; column = c } }) (at bs l (c + length run) x)
run_read [] bs t full is ends l c x = cc
run_read (b ∷ run) bs t full is ends l c x =
    let h = (full_parts is_ascii_alphanumeric b run full).0 in
    let p = at (b ∷ (run ++ bs)) l c x in
    let n = suc (length run) in
    let long : n ≡ run_length p.rest = sym (prefix_join is_ascii_alphanumeric (b ∷ run) bs full (ends_stop bs ends)) in
    let cut : b ∷ run ≡ take n p.rest = sym (take_at (b ∷ run) bs n refl) in
    no_space b (run ++ bs) l c x (run_no_space b h) ∙ run_no_mark b h p
    ∙ sym (run_good p n (b ∷ run) long (λ z. omega arith) cut t (sym is))
    ∙ ap (λ (r : List ℕ). good (record { tok = t; place = here p }) (at r l (c + n) x)) (drop_at (b ∷ run) bs n refl)

-- a run is no text's end, and has a byte
run_real : {run : List ℕ} {t : Tok} → RunSpells run t → Real t
run_real (run_number _) = tt
run_real (run_word _ _ _) = tt

run_some : {run : List ℕ} {t : Tok} → RunSpells run t → 1 ≤ length run
run_some (run_number (one_digit _)) = omega arith
run_some (run_number (two_digits _ _ _)) = omega arith
run_some (run_number (three_digits _ _ _ _)) = omega arith
run_some (run_word _ some _) = some

-- what is spelled is read, wherever its bytes stand
spelled_at : {bs : List ℕ} {ts : List Tok} → Spells bs ts → (l c x : ℕ) → Reads (at bs l c x) ts
unfolding next_token
spelled_at spells_nothing l c x = reads_end refl
spelled_at (spells_space {bs} s) l c x = reads_like (past_space bs l c x) (spelled_at s l (c + 1) x)
spelled_at (spells_line_end s) l c x = reads_token refl tt (spelled_at s (l + 1) 1 x)
spelled_at (spells_opens s) l c x = reads_token refl tt (spelled_at s l (c + 0 + 1) x)
spelled_at (spells_closes s) l c x = reads_token refl tt (spelled_at s l (c + 0 + 1) x)
spelled_at (spells_run {run} {bs} {t} r ends s) l c x = reads_token (run_read run bs t (full_run r) (run_from_spells r) ends l c x) (run_real r) (spelled_at s l (c + length run) x)

-- what is spelled is read
pub reads_from_spells : (p : Reading) {ts : List Tok} → Spells p.rest ts → Reads p ts
reads_from_spells p s = spelled_at s p.line p.column p.text

-- a number that the program accepts has no needless zero
no_zero : (a n : ℕ) (t : Tok) → number_token (cond (eqb a 48) None (Some n)) ≡ Ok t → (a ≡ 48 → ⊥) × (number n ≡ t)
no_zero a n t = cond_both (eqb a 48) None (Some n) (λ o. number_token o ≡ Ok t → (a ≡ 48 → ⊥) × (number n ≡ t)) (λ h e. cc) (λ h e. (eqb-false a 48 h, ok_value e))

-- the number that the program takes digits for is what they spell
number_spelled : (run : List ℕ) (t : Tok) → Full is_ascii_digit run → number_token (number_of run) ≡ Ok t → RunSpells run t
number_spelled [] t full e = cc
number_spelled (a ∷ []) t full e =
    let f = (full_parts is_ascii_digit a [] full).0 in
    subst (RunSpells (a ∷ [])) (ok_value e) (run_number (one_digit f))
number_spelled (a ∷ b ∷ []) t full e =
    let (f, more) = full_parts is_ascii_digit a (b ∷ []) full in
    let g = (full_parts is_ascii_digit b [] more).0 in
    let (real, same) = no_zero a _ t e in
    subst (RunSpells (a ∷ b ∷ [])) same (run_number (two_digits f g real))
number_spelled (a ∷ b ∷ c ∷ []) t full e =
    let (f, more) = full_parts is_ascii_digit a (b ∷ c ∷ []) full in
    let (g, last) = full_parts is_ascii_digit b (c ∷ []) more in
    let h = (full_parts is_ascii_digit c [] last).0 in
    let (real, same) = no_zero a _ t e in
    subst (RunSpells (a ∷ b ∷ c ∷ [])) same (run_number (three_digits f g h real))
number_spelled (a ∷ b ∷ c ∷ d ∷ run) t full e = cc

-- a run whose bytes are all letters is of letters alone
letters_full : (run : List ℕ) → Full is_ascii_alphabetic run → Letters run
letters_full [] full = tt
letters_full (b ∷ run) full =
    let (h, more) = full_parts is_ascii_alphabetic b run full in
    (h, letters_full run more)

-- the word that the program takes a run for is what it spells
word_spelled : (run : List ℕ) (t : Tok) → 1 ≤ length run → cond (leb (length run) 8 && list_all is_ascii_alphabetic run) (Ok (word run)) (Err BadWord) ≡ Ok t → RunSpells run t
word_spelled run t some =
    by_test (leb (length run) 8 && list_all is_ascii_alphabetic run)
    (λ h e. let (s, f) = and_parts (leb (length run) 8) (list_all is_ascii_alphabetic run) h in subst (RunSpells run) (ok_value e) (run_word (letters_full run f) some (leb-true (length run) 8 s)))
    (λ h e. cc)

-- the token that the program takes a run for is what the run spells
run_spelled : (run : List ℕ) (t : Tok) → run_token run ≡ Ok t → RunSpells run t
run_spelled [] t e = cc
run_spelled (b ∷ run) t e =
    by_test (list_all is_ascii_digit (b ∷ run))
    (λ h e. number_spelled (b ∷ run) t h e)
    (λ h e. word_spelled (b ∷ run) t (omega arith) e)
    e

-- the longest run at the front ends
front_ends : (bs : List ℕ) → RunEnds (drop (run_length bs) bs)
front_ends [] = tt
front_ends (b ∷ bs) = cond_both (is_ascii_alphanumeric b) _ _ (λ n. RunEnds (drop n (b ∷ bs))) (λ h. rw one_more (front_ends bs)) (λ h. sym (same_classes b) ∙ h)

-- the first token of some bytes, and how it goes before what the bytes after it spell
data First : List ℕ → Tok → List ℕ → Type 0 where
  first_end : {bs : List ℕ} → Spells bs [] → First bs text_end []
  first_token : {bs rest : List ℕ} {t : Tok} → Real t → length rest < length bs → ((ts : List Tok) → Spells rest ts → Spells bs (t ∷ ts)) → First bs t rest

-- a space before them changes neither
first_space : {bs rest : List ℕ} {t : Tok} → First bs t rest → First (32 ∷ bs) t rest
first_space (first_end s) = first_end (spells_space s)
first_space (first_token real less more) = first_token real (omega arith) (λ ts s. spells_space (more ts s))

-- the token that reading gives, if any, is the first of these bytes
abbrev Begins : List ℕ → Out TokenAt → Type 0
Begins bs (good o q) = First bs o.tok q.rest
Begins bs (bad r) = Unit {0}

-- nor does it here
begins_space : (bs : List ℕ) (o : Out TokenAt) → Begins bs o → Begins (32 ∷ bs) o
begins_space bs (good o q) f = first_space f
begins_space bs (bad r) f = tt

-- so it is where a run begins, where any token begins, and before the spaces
run_begins : (p : Reading) → Begins p.rest (run_from p)
run_begins p = cond_both (eqb n 0) _ _ (Begins bs) (λ h. tt) (λ h. go (run_token (take n bs)) refl)
  where
    bs : List ℕ
    bs = p.rest

    n : ℕ
    n = run_length bs

    go : (r : Result Tok Reason) → run_token (take n bs) ≡ r → Begins bs (read_run r p (moved p n))
    go (Ok t) e =
        let r = run_spelled (take n bs) t e in
        let some = run_some r in
        let whole = take-append-drop n bs in
        let less : length (drop n bs) < length bs = omega (arith, ap length whole, length-append (take n bs) (drop n bs)) in
        first_token (run_real r) less (λ ts s. subst (λ (w : List ℕ). Spells w (t ∷ ts)) whole (spells_run r (front_ends bs) s))
    go (Err r) e = tt

mark_begins : (b : ℕ) (bs : List ℕ) (l c x : ℕ) → Begins (b ∷ bs) (classify b (at (b ∷ bs) l c x))
mark_begins b bs l c x =
    cond_both (eqb b 10) _ _ (Begins (b ∷ bs)) (λ h. first_token tt (omega arith) (λ ts s. rw (eqb-true b 10 h) (spells_line_end s))) (λ _.
    cond_both (eqb b 40) _ _ (Begins (b ∷ bs)) (λ h. first_token tt (omega arith) (λ ts s. rw (eqb-true b 40 h) (spells_opens s))) (λ _.
    cond_both (eqb b 41) _ _ (Begins (b ∷ bs)) (λ h. first_token tt (omega arith) (λ ts s. rw (eqb-true b 41 h) (spells_closes s))) (λ _.
    run_begins (at (b ∷ bs) l c x))))

token_begins : (bs : List ℕ) (l c x : ℕ) → Begins bs (next_token (at bs l c x))
unfolding next_token
token_begins [] l c x = first_end spells_nothing
token_begins (b ∷ bs) l c x =
    elim (cases_Bool (eqb b 32)) [
      | inl h ↦ rw (eqb-true b 32 h, past_space bs l c x) (begins_space bs (next_token (at bs l (c + 1) x)) (token_begins bs l (c + 1) x))
      | inr h ↦ rw (no_space b bs l c x h) (mark_begins b bs l c x)
    ]

-- what it says at the text's end, and at any other token
end_parts : {bs rest : List ℕ} → First bs text_end rest → Spells bs [] × (rest ≡ [])
end_parts (first_end s) = (s, refl)
end_parts (first_token real _ _) = absurd real

token_parts : {bs rest : List ℕ} {t : Tok} → Real t → First bs t rest → (length rest < length bs) × ((ts : List Tok) → Spells rest ts → Spells bs (t ∷ ts))
token_parts real (first_end s) = absurd real
token_parts real (first_token _ less more) = (less, more)

-- the next token is the first that the bytes spell
token_first : (p q : Reading) {at : Place} {t : Tok} → next_token p ≡ good (record { tok = t; place = at }) q → First p.rest t q.rest
token_first p q e = subst (Begins p.rest) e (token_begins p.rest p.line p.column p.text)

-- what is read is spelled
pub spells_from_reads : (p : Reading) {ts : List Tok} → Reads p ts → Spells p.rest ts
spells_from_reads p (reads_end {q = q} e) = (end_parts (token_first p q e)).0
spells_from_reads p (reads_token {q = q} {ts = ts} e real r) = (token_parts real (token_first p q e)).1 ts (spells_from_reads q r)

-- a token other than the text's end has a byte
pub token_shorter : (p q : Reading) {at : Place} {t : Tok} → Real t → next_token p ≡ good (record { tok = t; place = at }) q → length q.rest < length p.rest
token_shorter p q real e = (token_parts real (token_first p q e)).0

-- at the text's end no byte is left
pub text_end_rest : (p q : Reading) {at : Place} → next_token p ≡ good (record { tok = text_end; place = at }) q → q.rest ≡ []
text_end_rest p q e = (end_parts (token_first p q e)).1

-- where no byte is left, the text ends
nothing_left : (l c x : ℕ) → next_token (at [] l c x) ≡ good (record { tok = text_end; place = record { line = l; column = c } }) (at [] l c x)
unfolding next_token
nothing_left l c x = rw add-zero refl

-- reading stays at the text's end
pub text_end_stays : (p q : Reading) {at : Place} → next_token p ≡ good (record { tok = text_end; place = at }) q → next_token q ≡ good (record { tok = text_end; place = here q }) q
text_end_stays p q e =
    let none = text_end_rest p q e in
    subst (λ (bs : List ℕ). let r = at bs q.line q.column q.text in next_token r ≡ good (record { tok = text_end; place = here r }) r) (sym none) (nothing_left q.line q.column q.text)

-- no byte spells no token
spells_none : {bs : List ℕ} {ts : List Tok} → Spells bs ts → bs ≡ [] → ts ≡ []
spells_none spells_nothing e = refl
spells_none (spells_space _) e = cc
spells_none (spells_line_end _) e = cc
spells_none (spells_opens _) e = cc
spells_none (spells_closes _) e = cc
spells_none (spells_run {run} {bs} r _ _) e = absurd (omega (arith, run_some r, ap length e, length-append run bs))

-- from where no byte is left no token is read
pub reads_nothing : (p : Reading) {ts : List Tok} → p.rest ≡ [] → Reads p ts → ts ≡ []
reads_nothing p none r = spells_none (spells_from_reads p r) none

-- each token has a byte, so that there are no more tokens than bytes
pub length_reads : {p : Reading} {ts : List Tok} → Reads p ts → length ts ≤ length p.rest
length_reads (reads_end e) = omega arith
length_reads (reads_token {p} {q} e real r) = let less = token_shorter p q real e in let more = length_reads r in omega arith

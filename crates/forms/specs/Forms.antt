-- What each place of a form takes, token by token; the relation that these steps keep is in Lines.
use Rattle.std.specs.Prelude.{◌≡◌, ℕ, zero, suc, ◌<◌, ◌≤◌, cond, ◌&&◌, List, length, Some, None, Ok, Err, Option, Result, nat_le, nat_lt}
use Rattle.std.specs.Borrow.{Bor}
use Rattle.words.specs.declared.fault.Fault.{Fault}
use Rattle.words.specs.declared.fault.Place.{Place}
use Rattle.words.specs.declared.token.Placed.{Placed}
use Rattle.words.specs.Numbers.{Refused, refused}
use Rattle.words.specs.declared.token.Token.{Token}
use Rattle.words.specs.Words.{Tok, word, number, opens, closes, line_end, text_end, Reading, reading, tok, outcome, Out, good, bad, bind, next_token, here}
use Rattle.forms.specs.declared.form.Forms.{Forms}
use Rattle.forms.specs.declared.form.Next.{Next}
use Rattle.forms.specs.declared.form.Next.TheVariants.{Form, End}
use Rattle.forms.specs.declared.form.Item.{Item}
use Rattle.forms.specs.declared.form.Item.TheVariants as item

abbrev pub form_reading : Forms → Reading
form_reading f = reading f.words

-- the refusal of a token that may not stand at its place
abbrev pub misplaced : {A : Type 0} → Place → Reading → Out A
misplaced at p = bad (record { number = 4; text = p.text; layer = 2; place = at })

-- the refusal of a token past a limit of the text
abbrev pub beyond : {A : Type 0} → ℕ → Place → Reading → Out A
beyond reason at p = bad (record { number = reason; text = p.text; layer = 3; place = at })

-- an opening bracket, by its place
abbrev pub opened : Tok → Place → Reading → Out Place
opened (word w) at p = misplaced at p
opened (number n) at p = misplaced at p
opened opens at p = good at p
opened closes at p = misplaced at p
opened line_end at p = misplaced at p
opened text_end at p = misplaced at p

-- a closing bracket, by its place
abbrev pub closed : Tok → Place → Reading → Out Place
closed (word w) at p = misplaced at p
closed (number n) at p = misplaced at p
closed opens at p = misplaced at p
closed closes at p = good at p
closed line_end at p = misplaced at p
closed text_end at p = misplaced at p

-- a number, and its place
abbrev pub numbered : Tok → Place → Reading → Out (Placed ℕ)
numbered (word w) at p = misplaced at p
numbered (number n) at p = good (record { value = n; place = at }) p
numbered opens at p = misplaced at p
numbered closes at p = misplaced at p
numbered line_end at p = misplaced at p
numbered text_end at p = misplaced at p

-- a word, free of where its bytes lie, and its place
pub record WordAt : Type 0 where
  pub bytes : List ℕ
  pub place : Place

abbrev pub named : Tok → Place → Reading → Out WordAt
named (word w) at p = good (record { bytes = w; place = at }) p
named (number n) at p = misplaced at p
named opens at p = misplaced at p
named closes at p = misplaced at p
named line_end at p = misplaced at p
named text_end at p = misplaced at p

-- a word or a number, free of where its bytes lie, and its place
pub data ItemAt : Type 0 where
  item_name : WordAt → ItemAt
  item_number : Placed ℕ → ItemAt

abbrev pub itemized : Tok → Place → Reading → Out ItemAt
itemized (word w) at p = good (item_name (record { bytes = w; place = at })) p
itemized (number n) at p = good (item_number (record { value = n; place = at })) p
itemized opens at p = misplaced at p
itemized closes at p = misplaced at p
itemized line_end at p = misplaced at p
itemized text_end at p = misplaced at p

-- the end of a line, or of the text
abbrev pub ended : Tok → Place → Reading → Out (Unit {0})
ended (word w) at p = misplaced at p
ended (number n) at p = misplaced at p
ended opens at p = misplaced at p
ended closes at p = misplaced at p
ended line_end at p = good tt p
ended text_end at p = good tt p

-- what a line begins with, or none where it is blank
abbrev pub begun : Tok → Place → Reading → Out (Option Next)
begun (word w) at p = misplaced at p
begun (number n) at p = misplaced at p
begun opens at p = good (Some Form) p
begun closes at p = misplaced at p
begun line_end at p = good None p
begun text_end at p = good (Some (End at)) p

-- the next token, taken so
abbrev pub taken : {A : Type 0} → (Tok → Place → Reading → Out A) → Reading → Out A
taken f p = bind (next_token p) (λ t q. f t.tok t.place q)

-- a step that takes the next token: its value is the one picked of the token, and a token of which nothing is picked is misplaced
pub data TakenBy {T : Type 0} (picks : Placed Token → Option T → Type 0) (r : Result T Fault) (q p : Reading) : Type 0 where
  token_taken : (t : Placed Token) (a : T) → next_token p ≡ good (record { tok = tok t.value; place = t.place }) q → picks t (Some a) → r ≡ Ok a → TakenBy picks r q p
  token_refused : (t : Placed Token) → next_token p ≡ good (record { tok = tok t.value; place = t.place }) q → picks t None → outcome r q ≡ misplaced t.place q → TakenBy picks r q p
  no_token : (e : Refused) → next_token p ≡ bad e → outcome r q ≡ bad e → TakenBy picks r q p

-- a number from low on and below end
abbrev pub number_in : ℕ → ℕ → Reading → Out ℕ
number_in low end p = bind (taken numbered p) (λ n q. cond (nat_le low n.value && nat_lt n.value end) (good n.value q) (beyond 7 n.place q))

-- the end of a form, and of its line
abbrev pub form_end : Reading → Out (Unit {0})
form_end p = bind (taken closed p) (λ _ q. taken ended q)

-- the bytes left after a line's start and before it: a bracket and a line end have a byte
abbrev pub next_eats : Next → ℕ → ℕ → Type 0
next_eats Form after before = after < before
next_eats (End at) after before = after ≤ before

abbrev pub start_eats : Option Next → ℕ → ℕ → Type 0
start_eats (Some n) after before = next_eats n after before
start_eats None after before = after < before

abbrev pub name_read : Result (Placed (Bor (List ℕ))) Fault → Reading → Out WordAt
name_read (Ok w) p = good (record { bytes = w.value.now; place = w.place }) p
name_read (Err e) p = bad (refused e)

abbrev pub item_plain : Item → ItemAt
item_plain (item.Name w) = item_name (record { bytes = w.value.now; place = w.place })
item_plain (item.Number n) = item_number n

abbrev pub item_read : Result Item Fault → Reading → Out ItemAt
item_read (Ok i) p = good (item_plain i) p
item_read (Err e) p = bad (refused e)

abbrev pub past_blank : (Reading → Out Next) → Option Next → Reading → Out Next
past_blank again (Some n) p = good n p
past_blank again None p = again p

-- past k blank lines at most
abbrev pub within_lines : ℕ → Reading → Out Next
within_lines zero p = good (End (here p)) p
within_lines (suc k) p = bind (taken begun p) (past_blank (within_lines k))

-- past all blank lines: each has a byte, so there are no more of them than bytes
unfoldable pub next_form : Reading → Out Next
next_form p = within_lines (suc (length p.rest)) p

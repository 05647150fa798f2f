-- The next token of a text, step by step; the relation that these steps keep is in Spelling.
use Rattle.std.specs.Prelude.{ℕ, ◌+◌, ◌-◌, ◌*◌, cond, ◌&&◌, List, [], ◌∷◌, length, take, drop, Some, None, Ok, Err, Option, Result, ◌==◌, nat_le}
use Rattle.std.specs.List.{list_all, prefix_len}
use Rattle.std.specs.Char.{is_ascii_digit, is_ascii_alphabetic, is_ascii_alphanumeric}
use Rattle.words.specs.declared.fault.Fault.{Fault}
use Rattle.words.specs.declared.fault.Place.{Place}
use Rattle.words.specs.declared.fault.Reason.{Reason}
use Rattle.words.specs.declared.fault.Reason.TheVariants.{BadByte, BadNumber, BadWord}
use Rattle.words.specs.declared.token.Token.{Token}
use Rattle.words.specs.declared.token.Token.TheVariants.{Word, Number, Open, Close, LineEnd, TextEnd}
use Rattle.words.specs.declared.token.Placed.{Placed}
use Rattle.words.specs.declared.cursor.Words.{Words}
use Rattle.words.specs.Numbers.{Refused, refused, text_number, reason_number}

-- no text is longer than this many bytes
abbrev pub text_limit : ℕ
text_limit = 32768

-- a token, free of where its bytes lie
pub data Tok : Type 0 where
  word : List ℕ → Tok
  number : ℕ → Tok
  opens : Tok
  closes : Tok
  line_end : Tok
  text_end : Tok

abbrev pub tok : Token → Tok
tok (Word w) = word w.now
tok (Number n) = number n
tok Open = opens
tok Close = closes
tok LineEnd = line_end
tok TextEnd = text_end

-- a token and the place of its first byte
pub record TokenAt : Type 0 where
  pub tok : Tok
  pub place : Place

-- how far a text has been read: the bytes to come, the place of the first of them, and which text it is
pub record Reading : Type 0 where
  pub rest : List ℕ
  pub line : ℕ
  pub column : ℕ
  pub text : ℕ

abbrev pub reading : Words → Reading
reading w = record { rest = w.rest.now; line = w.place.line; column = w.place.column; text = text_number w.text }

-- what a step of reading gives: a value and where reading goes on, or a refusal
pub data Out (A : Type 0) : Type 0 where
  good : A → Reading → Out A
  bad : Refused → Out A

abbrev pub outcome : {A : Type 0} → Result A Fault → Reading → Out A
outcome (Ok a) p = good a p
outcome (Err e) p = bad (refused e)

abbrev pub token_read : Result (Placed Token) Fault → Reading → Out TokenAt
token_read (Ok t) p = good (record { tok = tok t.value; place = t.place }) p
token_read (Err e) p = bad (refused e)

-- a step, and another one from there
abbrev pub bind : {A B : Type 0} → Out A → (A → Reading → Out B) → Out B
bind (good a p) f = f a p
bind (bad e) f = bad e

-- the number that one to three digits with no needless leading zero write
abbrev pub number_of : List ℕ → Option ℕ
number_of [] = None
number_of (a ∷ []) = Some (a - 48)
number_of (a ∷ b ∷ []) = cond (a == 48) None (Some (10 * (a - 48) + (b - 48)))
number_of (a ∷ b ∷ c ∷ []) = cond (a == 48) None (Some (100 * (a - 48) + 10 * (b - 48) + (c - 48)))
number_of (a ∷ b ∷ c ∷ d ∷ ds) = None

abbrev pub number_token : Option ℕ → Result Tok Reason
number_token (Some n) = Ok (number n)
number_token None = Err BadNumber

-- what a run of letters and digits is
abbrev pub run_token : List ℕ → Result Tok Reason
run_token run =
    cond (list_all is_ascii_digit run) (number_token (number_of run))
    (cond (nat_le (length run) 8 && list_all is_ascii_alphabetic run) (Ok (word run)) (Err BadWord))

abbrev pub run_tok : Result Token Reason → Result Tok Reason
run_tok (Ok t) = Ok (tok t)
run_tok (Err r) = Err r

-- n bytes further in the same line
abbrev pub moved : Reading → ℕ → Reading
moved p n = record { rest = drop n p.rest; line = p.line; column = p.column + n; text = p.text }

-- past a line's end
abbrev pub next_line : Reading → Reading
next_line p = record { rest = drop 1 p.rest; line = p.line + 1; column = 1; text = p.text }

abbrev pub here : Reading → Place
here p = record { line = p.line; column = p.column }

abbrev pub token_here : Tok → Reading → Reading → Out TokenAt
token_here t p q = good (record { tok = t; place = here p }) q

-- a fault of words at the token that begins at a place
abbrev pub word_fault : Reason → ℕ → Place → Refused
word_fault r text at = record { number = reason_number r; text = text; layer = 1; place = at }

abbrev pub read_run : Result Tok Reason → Reading → Reading → Out TokenAt
read_run (Ok t) p q = token_here t p q
read_run (Err r) p q = bad (word_fault r p.text (here p))

-- how many letters and digits stand at the front
abbrev pub run_length : List ℕ → ℕ
run_length bs = prefix_len is_ascii_alphanumeric bs

-- the run that begins here; a byte that begins none is a fault
abbrev pub run_from : Reading → Out TokenAt
run_from p =
    cond (run_length p.rest == 0) (bad (word_fault BadByte p.text (here p)))
    (read_run (run_token (take (run_length p.rest) p.rest)) p (moved p (run_length p.rest)))

-- the token that begins with the byte b
abbrev pub classify : ℕ → Reading → Out TokenAt
classify b p =
    cond (b == 10) (token_here line_end p (next_line p))
    (cond (b == 40) (token_here opens p (moved p 1))
    (cond (b == 41) (token_here closes p (moved p 1))
    (run_from p)))

abbrev pub token_from : List ℕ → Reading → Out TokenAt
token_from [] p = token_here text_end p p
token_from (b ∷ bs) p = classify b p

-- the next token after any spaces
unfoldable pub next_token : Reading → Out TokenAt
next_token p = let q = moved p (prefix_len (λ b. b == 32) p.rest) in token_from q.rest q

-- a text before its first byte
abbrev pub start : List ℕ → ℕ → Reading
start bytes text = record { rest = bytes; line = 1; column = 1; text = text }

-- how many bytes are to come
abbrev pub left : Words → ℕ
left w = length w.rest.now

-- how many bytes a token has at least
abbrev pub size : Token → ℕ
size (Word w) = 1
size (Number n) = 1
size Open = 1
size Close = 1
size LineEnd = 1
size TextEnd = 0

abbrev pub eaten : Result (Placed Token) Fault → ℕ
eaten (Ok t) = size t.value
eaten (Err e) = 0

-- Which tokens a text spells, as a relation between bytes and tokens.
use Rattle.std.specs.Prelude.{◌≡◌, ℕ, ◌+◌, ◌-◌, ◌*◌, ◌≤◌, true, false, ◌||◌, List, [], ◌∷◌, ◌++◌, length, ◌≢◌}
use Rattle.std.specs.Char.{is_ascii_digit, is_ascii_alphabetic}
use Rattle.words.specs.Words.{Tok, word, number, opens, closes, line_end}

-- one to three digits, the first of several being no zero, write a number
pub data Numeral : List ℕ → ℕ → Type 0 where
  one_digit : {a : ℕ} → is_ascii_digit a ≡ true → Numeral (a ∷ []) (a - 48)
  two_digits : {a b : ℕ} → is_ascii_digit a ≡ true → is_ascii_digit b ≡ true → (a ≢ 48) → Numeral (a ∷ b ∷ []) (10 * (a - 48) + (b - 48))
  three_digits : {a b c : ℕ} → is_ascii_digit a ≡ true → is_ascii_digit b ≡ true → is_ascii_digit c ≡ true → (a ≢ 48) → Numeral (a ∷ b ∷ c ∷ []) (100 * (a - 48) + 10 * (b - 48) + (c - 48))

-- letters alone
abbrev pub Letters : List ℕ → Type 0
Letters [] = Unit {0}
Letters (b ∷ bs) = (is_ascii_alphabetic b ≡ true) × Letters bs

-- a run is a number, or a word of one to eight letters
pub data RunSpells : List ℕ → Tok → Type 0 where
  run_number : {run : List ℕ} {n : ℕ} → Numeral run n → RunSpells run (number n)
  run_word : {run : List ℕ} → Letters run → 1 ≤ length run → length run ≤ 8 → RunSpells run (word run)

-- a run is a longest stretch of letters and digits: neither stands right after it
abbrev pub RunEnds : List ℕ → Type 0
RunEnds [] = Unit {0}
RunEnds (b ∷ bs) = (is_ascii_alphabetic b || is_ascii_digit b) ≡ false

-- the bytes of a text spell these tokens, in this order, with nothing but spaces between them
pub data Spells : List ℕ → List Tok → Type 0 where
  spells_nothing : Spells [] []
  spells_space : {bs : List ℕ} {ts : List Tok} → Spells bs ts → Spells (32 ∷ bs) ts
  spells_line_end : {bs : List ℕ} {ts : List Tok} → Spells bs ts → Spells (10 ∷ bs) (line_end ∷ ts)
  spells_opens : {bs : List ℕ} {ts : List Tok} → Spells bs ts → Spells (40 ∷ bs) (opens ∷ ts)
  spells_closes : {bs : List ℕ} {ts : List Tok} → Spells bs ts → Spells (41 ∷ bs) (closes ∷ ts)
  spells_run : {run bs : List ℕ} {t : Tok} {ts : List Tok} → RunSpells run t → RunEnds bs → Spells bs ts → Spells (run ++ bs) (t ∷ ts)

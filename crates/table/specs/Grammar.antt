-- The mode table as a language: which texts are tables within the limits, and what the bytes of a table say.
use Rattle.std.specs.Prelude.{◌≡◌, ℕ, ◌<◌, ◌≤◌, ◌⊎◌, List, [], ◌∷◌, map, length, codes, Decides, Result, MatchResult}
use Rattle.std.specs.List.{AllByRecursion}
use Rattle.words.specs.declared.fault.Fault.{Fault}
use Rattle.words.specs.Words.{Tok, word, number, opens, closes, text_limit}
use Rattle.words.specs.Spelling.{Spells}
use Rattle.forms.specs.Lines.{Lines}
use Rattle.graph.specs.Meaning.{mode_limit, command_limit, flag_limit}
use Rattle.list_graph.specs.Layout.{table_bytes, flag_bit, arc_bit}
use Rattle.list_graph.specs.Lists.{CountsFit}
use Rattle.table.specs.declared.contents.Counts.{Counts}
use Rattle.table.specs.declared.contents.Entry.{Entry}
use Rattle.table.specs.declared.contents.Entry.TheVariants.{Mark, Arc}

-- the tokens of a head, as (modes 3)
abbrev pub head_tokens : List ℕ → ℕ → List Tok
head_tokens name n = opens ∷ (word name ∷ (number n ∷ (closes ∷ [])))

-- the tokens of (mark p u) and (arc a u v)
abbrev pub entry_tokens : Entry → List Tok
entry_tokens (Mark p u) = opens ∷ (word (codes "mark") ∷ (number p ∷ (number u ∷ (closes ∷ []))))
entry_tokens (Arc a u v) = opens ∷ (word (codes "arc") ∷ (number a ∷ (number u ∷ (number v ∷ (closes ∷ [])))))

-- the forms of a table: three heads in order, then its entries
abbrev pub table_forms : Counts → List Entry → List (List Tok)
table_forms c entries =
    head_tokens (codes "modes") c.modes ∷ (head_tokens (codes "commands") c.commands ∷ (head_tokens (codes "flags") c.flags ∷ map entry_tokens entries))

-- an entry names only what the heads count
abbrev pub EntryFits : Counts → Entry → Type 0
EntryFits c (Mark p u) = (p < c.flags) × (u < c.modes)
EntryFits c (Arc a u v) = (a < c.commands) × (u < c.modes) × (v < c.modes)

-- the text is a table with these counts and entries, within the limits
pub record IsTable (text : List ℕ) (c : Counts) (entries : List Entry) : Type 0 where
  pub short : length text ≤ text_limit
  pub tokens : List Tok
  pub spelled : Spells text tokens
  pub lines : Lines tokens (table_forms c entries)
  pub counts : CountsFit c.modes c.commands c.flags
  pub fits : AllByRecursion (EntryFits c) entries

-- the entry is in the list
abbrev pub Listed : Entry → List Entry → Type 0
Listed e [] = ⊥
Listed e (x ∷ xs) = (x ≡ e) ⊎ Listed e xs

-- the bytes say exactly these marks and arcs
pub record Says (entries : List Entry) (bytes : List ℕ) : Type 0 where
  pub marks : (p u : ℕ) → p < flag_limit → u < mode_limit → Decides (flag_bit bytes p u) (Listed (Mark p u) entries)
  pub arcs : (a u v : ℕ) → a < command_limit → u < mode_limit → v < mode_limit → Decides (arc_bit bytes a u v) (Listed (Arc a u v) entries)

-- the text is a table, the only one it can be taken for, and the bytes say what it says
pub record TableRead (text : List ℕ) (c : Counts) (bytes : List ℕ) : Type 0 where
  pub entries : List Entry
  pub is : IsTable text c entries
  pub only : (d : Counts) (es : List Entry) → IsTable text d es → (d ≡ c) × (es ≡ entries)
  pub says : Says entries bytes

-- a text is accepted exactly where the memory is long enough and the text is a table within the limits
abbrev pub ReadsExactly : List ℕ → List ℕ → Result Counts Fault → List ℕ → Type 0
ReadsExactly text before r after =
    MatchResult r (λ c. (table_bytes ≤ length before) × TableRead text c after)
    (λ _. table_bytes ≤ length before → (c : Counts) (entries : List Entry) → IsTable text c entries → ⊥)

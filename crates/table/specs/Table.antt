-- A mode table, read step by step; the relation that these steps keep is in Grammar.
use Rattle.std.specs.Prelude.{ℕ, zero, suc, ◌<◌, ◌≤◌, cond, List, [], ◌∷◌, ◌++◌, length, drop, replicate, Some, None, Ok, Err, codes, Option, Result, ◌==◌, nat_lt}
use Rattle.std.specs.Str.{bytes_eq}
use Rattle.graph.specs.Meaning.{mode_limit, command_limit, flag_limit}
use Rattle.words.specs.declared.fault.Fault.{Fault}
use Rattle.words.specs.declared.fault.Place.{Place}
use Rattle.words.specs.declared.token.Placed.{Placed}
use Rattle.words.specs.Numbers.{Refused, refused, before_text}
use Rattle.words.specs.Words.{Reading, Out, good, bad, bind, here, start, text_limit}
use Rattle.forms.specs.declared.form.Next.{Next}
use Rattle.forms.specs.declared.form.Next.TheVariants.{Form, End}
use Rattle.forms.specs.Forms.{misplaced, beyond, named, number_in, form_end, next_form, taken, form_reading}
use Rattle.list_graph.specs.Layout.{table_bytes, marked, joined}
use Rattle.table.specs.declared.contents.Counts.{Counts}
use Rattle.table.specs.declared.contents.Entry.{Entry}
use Rattle.table.specs.declared.contents.Entry.TheVariants.{Mark, Arc}
use Rattle.table.specs.declared.contents.Keyword.{Keyword}
use Rattle.table.specs.declared.contents.Keyword.TheVariants as key
use Rattle.table.specs.declared.table.Table.{Table}

abbrev pub table_reading : Table → Reading
table_reading t = form_reading t.forms

-- which of the table's words it is
abbrev pub key_of : List ℕ → Option Keyword
key_of w =
    cond (bytes_eq w (codes "modes")) (Some key.Modes)
    (cond (bytes_eq w (codes "commands")) (Some key.Commands)
    (cond (bytes_eq w (codes "flags")) (Some key.Flags)
    (cond (bytes_eq w (codes "mark")) (Some key.Mark)
    (cond (bytes_eq w (codes "arc")) (Some key.Arc) None))))

abbrev pub keyed : Option Keyword → Place → Reading → Out (Placed Keyword)
keyed (Some k) at p = good (record { value = k; place = at }) p
keyed None at p = misplaced at p

-- one of the table's words, and its place
abbrev pub key_at : Reading → Out (Placed Keyword)
key_at p = bind (taken named p) (λ w q. keyed (key_of w.bytes) w.place q)

abbrev pub key_number : Keyword → ℕ
key_number key.Modes = 0
key_number key.Commands = 1
key_number key.Flags = 2
key_number key.Mark = 3
key_number key.Arc = 4

-- the word that has to come next; another of the table's words is out of order
abbrev pub in_order : Keyword → Placed Keyword → Reading → Out (Unit {0})
in_order want head p = cond (key_number want == key_number head.value) (good tt p) (beyond 6 head.place p)

-- a head, after its bracket
abbrev pub head_form : Keyword → ℕ → ℕ → Reading → Out ℕ
head_form want low end p = bind (key_at p) (λ head q. bind (in_order want head q) (λ _ q. bind (number_in low end q) (λ n q. bind (form_end q) (λ _ q. good n q))))

abbrev pub head_line : Keyword → ℕ → ℕ → Next → Reading → Out ℕ
head_line want low end Form p = head_form want low end p
head_line want low end (End at) p = beyond 6 at p

-- the next line has to be a head
abbrev pub head_at : Keyword → ℕ → ℕ → Reading → Out ℕ
head_at want low end p = bind (next_form p) (head_line want low end)

abbrev pub entry_by : Counts → Placed Keyword → Keyword → Reading → Out Entry
entry_by c head key.Modes p = beyond 6 head.place p
entry_by c head key.Commands p = beyond 6 head.place p
entry_by c head key.Flags p = beyond 6 head.place p
entry_by c head key.Mark p = bind (number_in 0 c.flags p) (λ f q. bind (number_in 0 c.modes q) (λ u q. good (Mark f u) q))
entry_by c head key.Arc p = bind (number_in 0 c.commands p) (λ a q. bind (number_in 0 c.modes q) (λ u q. bind (number_in 0 c.modes q) (λ v q. good (Arc a u v) q)))

abbrev pub entry_form : Counts → Reading → Out Entry
entry_form c p = bind (key_at p) (λ head q. entry_by c head head.value q)

abbrev pub entry_line : Counts → Next → Reading → Out (Option Entry)
entry_line c Form p = bind (entry_form c p) (λ e q. bind (form_end q) (λ _ q. good (Some e) q))
entry_line c (End at) p = good None p

-- the next line has to be a mark or an arc, or the text has ended
abbrev pub entry_at : Counts → Reading → Out (Option Entry)
entry_at c p = bind (next_form p) (entry_line c)

abbrev pub and_more : (Reading → Out (List Entry)) → Option Entry → Reading → Out (List Entry)
and_more more (Some e) p = bind (more p) (λ es q. good (e ∷ es) q)
and_more more None p = good [] p

-- fewer than k entries
abbrev pub within_entries : ℕ → Counts → Reading → Out (List Entry)
within_entries zero c p = misplaced (here p) p
within_entries (suc k) c p = bind (entry_at c p) (and_more (within_entries k c))

-- all entries: each has a byte, so there are no more of them than bytes
unfoldable pub entries_from : Counts → Reading → Out (List Entry)
entries_from c p = within_entries (suc (length p.rest)) c p

-- the bytes with one entry more
abbrev pub with_entry : Entry → List ℕ → List ℕ
with_entry (Mark p u) bytes = marked bytes p u
with_entry (Arc a u v) bytes = joined bytes a u v

-- the bytes with entries more
abbrev pub with_entries : List Entry → List ℕ → List ℕ
with_entries [] bytes = bytes
with_entries (e ∷ es) bytes = with_entries es (with_entry e bytes)

-- what is left of the bytes once the entries are set in them
abbrev pub laid : Out (List Entry) → List ℕ → Out (List ℕ)
laid (good es p) bytes = good (with_entries es bytes) p
laid (bad e) bytes = bad e

abbrev pub laid_read : Result (Unit {0}) Fault → Reading → List ℕ → Out (List ℕ)
laid_read (Ok _) p bytes = good bytes p
laid_read (Err e) p bytes = bad (refused e)

-- an entry has a byte
abbrev pub entry_eats : Option Entry → ℕ → ℕ → Type 0
entry_eats (Some e) after before = after < before
entry_eats None after before = after ≤ before

-- what a table says
pub record Contents : Type 0 where
  pub counts : Counts
  pub entries : List Entry

abbrev pub counts_of : ℕ → ℕ → ℕ → Counts
counts_of n c f = record { modes = n; commands = c; flags = f }

abbrev pub heads_at : Reading → Out Counts
heads_at p = bind (head_at key.Modes 1 (suc mode_limit) p) (λ n q. bind (head_at key.Commands 1 (suc command_limit) q) (λ c q. bind (head_at key.Flags 0 (suc flag_limit) q) (λ f q. good (counts_of n c f) q)))

-- three heads, then entries
abbrev pub contents_at : Reading → Out Contents
contents_at p = bind (heads_at p) (λ c q. bind (entries_from c q) (λ es q. good (record { counts = c; entries = es }) q))

-- a table's bytes before any entry
unfoldable pub blank : List ℕ
blank = replicate table_bytes 0

-- what reading a table answers, and what the whole memory then holds
pub data Answer : Type 0 where
  accepts : Counts → List ℕ → Answer
  refuses : Refused → List ℕ → Answer

abbrev pub answered : Result Counts Fault → List ℕ → Answer
answered (Ok c) memory = accepts c memory
answered (Err e) memory = refuses (refused e) memory

-- what reading the text gives, and the bytes that it leaves in a table's 8,320
abbrev pub table_over : Out Contents → Answer
table_over (good t p) = accepts t.counts (with_entries t.entries blank)
table_over (bad e) = refuses e blank

-- the first 8,320 bytes of the memory are the table's, and the others stay
abbrev pub over : List ℕ → Answer → Answer
over memory (accepts c bytes) = accepts c (bytes ++ drop table_bytes memory)
over memory (refuses e bytes) = refuses e (bytes ++ drop table_bytes memory)

-- entries set in any bytes; a refusal says nothing of the bytes
abbrev pub lines_over : Out Contents → List ℕ → Answer
lines_over (good t p) bytes = accepts t.counts (with_entries t.entries bytes)
lines_over (bad e) bytes = refuses e []

abbrev pub lines_read : Result Counts Fault → List ℕ → Answer
lines_read (Ok c) bytes = accepts c bytes
lines_read (Err e) bytes = refuses (refused e) []

-- the grounds on which nothing is read: 9 where the memory is shorter than a table, else 10 where the text is too long
abbrev pub before_refusal : List ℕ → List ℕ → Option Refused
before_refusal text memory = cond (nat_lt (length memory) table_bytes) (Some (before_text 1 9)) (cond (nat_lt text_limit (length text)) (Some (before_text 1 10)) None)

abbrev pub answer_by : List ℕ → List ℕ → Option Refused → Answer
answer_by text memory (Some e) = refuses e memory
answer_by text memory None = over memory (table_over (contents_at (start text 1)))

abbrev pub table_answer : List ℕ → List ℕ → Answer
table_answer text memory = answer_by text memory (before_refusal text memory)

-- From the lines of a text to the whole table.
use Rattle.std.proofs.Common.{◌≡◌, ℕ, ◌≤◌, true, false, List, [], ◌++◌, length, take, drop, replicate, Ok, Err, Result, sym, refl, ap, ◌∙◌}
use Rattle.std.proofs.lemmas.List.{take_all}
use Rattle.std.specs.Result.{is_err}
use Rattle.std.proofs.lemmas.Bool.{le-ltb, false≢true}
use Rattle.words.specs.declared.fault.Fault.{Fault}
use Rattle.words.specs.Numbers.{Refused, refused}
use Rattle.words.specs.Words.{Out, good, bad, start}
use Rattle.table.specs.declared.contents.Counts.{Counts}
use Rattle.table.specs.Table.{accepts, refuses, answered, Contents, blank, contents_at, lines_over, lines_read, table_over, over, table_answer}

pub accepts_not_refuses : {c : Counts} {e : Refused} {m n : List ℕ} → accepts c m ≡ refuses e n → ⊥
accepts_not_refuses h = cc

over_good : (o : Out Contents) (c : Counts) (m : List ℕ) → accepts c m ≡ lines_over o blank → accepts c m ≡ table_over o
over_good (good t p) c m h = h
over_good (bad e) c m h = cc

over_bad : (o : Out Contents) (e : Refused) (m : List ℕ) → refuses e [] ≡ lines_over o m → refuses e blank ≡ table_over o
over_bad (good t p) e m h = absurd (accepts_not_refuses (sym h))
over_bad (bad f) e m h = let same : e ≡ f = cc in ap (λ (x : Refused). refuses x blank) same

module _ (text : List ℕ) (short : length text ≤ 32768) where
  whole_text : (bytes : List ℕ) → lines_over (contents_at (start (take 32768 text) 1)) bytes ≡ lines_over (contents_at (start text 1)) bytes
  whole_text bytes = ap (λ (t : List ℕ). lines_over (contents_at (start t 1)) bytes) (take_all 32768 text short)

  table_good : (c : Counts) (before after : List ℕ) → before ≡ blank → accepts c after ≡ lines_over (contents_at (start (take 32768 text) 1)) before → accepts c after ≡ table_over (contents_at (start text 1))
  table_good c before after b h = over_good (contents_at (start text 1)) c after (h ∙ whole_text before ∙ ap (lines_over (contents_at (start text 1))) b)

  table_bad : (e : Refused) (before after : List ℕ) → after ≡ blank → refuses e [] ≡ lines_over (contents_at (start (take 32768 text) 1)) before → refuses e after ≡ table_over (contents_at (start text 1))
  table_bad e before after b h = ap (refuses e) b ∙ over_bad (contents_at (start text 1)) e before (h ∙ whole_text before)

  -- what was read stays, and the bytes are blank again after a fault
  pub table_kept : (r : Result Counts Fault) (before after : List ℕ) → is_err r ≡ false → before ≡ blank → lines_read r after ≡ lines_over (contents_at (start (take 32768 text) 1)) before → answered r after ≡ table_over (contents_at (start text 1))
  table_kept (Ok c) before after ok b h = table_good c before after b h
  table_kept (Err e) before after ok b h = absurd (false≢true (sym ok))

  pub table_cleared : (r : Result Counts Fault) (before after clean : List ℕ) → is_err r ≡ true → clean ≡ blank → lines_read r after ≡ lines_over (contents_at (start (take 32768 text) 1)) before → answered r clean ≡ table_over (contents_at (start text 1))
  table_cleared (Ok c) before after clean err b h = absurd (false≢true err)
  table_cleared (Err e) before after clean err b h = table_bad (refused e) before clean b h

pub blank_filled : (bytes : List ℕ) (n : ℕ) → bytes ≡ replicate n 0 → n ≡ 8320 → bytes ≡ blank
unfolding blank
blank_filled bytes n f l = f ∙ ap (λ (k : ℕ). replicate k 0) l

-- what stands behind the table's bytes stays
answered_over : (r : Result Counts Fault) (bytes memory : List ℕ) → answered r (bytes ++ drop 8320 memory) ≡ over memory (answered r bytes)
answered_over (Ok c) bytes memory = refl
answered_over (Err e) bytes memory = refl

-- the answer where nothing is refused before the text
pub answer_over : (text memory : List ℕ) → 8320 ≤ length memory → length text ≤ 32768 → table_answer text memory ≡ over memory (table_over (contents_at (start text 1)))
answer_over text memory long short =
    let h = le-ltb (length memory) 8320 long in
    let l = le-ltb 32768 (length text) short in
    rw (h, l) refl

-- what was read into a table's bytes is the answer of the whole memory
pub whole_answer : (text memory bytes : List ℕ) (r : Result Counts Fault) → 8320 ≤ length memory → length text ≤ 32768 → answered r bytes ≡ table_over (contents_at (start text 1)) → answered r (bytes ++ drop 8320 memory) ≡ table_answer text memory
whole_answer text memory bytes r long short e = answered_over r bytes memory ∙ ap (over memory) e ∙ sym (answer_over text memory long short)

-- A table is accepted exactly where its text is one, and its bytes say what it says.
use Rattle.std.proofs.Common.{◌≡◌, ℕ, suc, ◌<◌, ◌≤◌, Bool, true, false, cond, ltb, List, ◌++◌, length, drop, Some, None, Ok, Err, Result, sym, refl, ap, ◌∙◌, subst, arith}
use Rattle.std.proofs.lemmas.List.{length-map}
use Rattle.std.proofs.lemmas.Bool.{ltb-false}
use Rattle.words.specs.declared.fault.Fault.{Fault}
use Rattle.words.specs.Numbers.{before_text}
use Rattle.words.specs.Words.{Tok, Reading, Out, good, bad, start}
use Rattle.words.proofs.Tokens.{Reads, reads_from_spells, spells_from_reads, length_reads}
use Rattle.forms.specs.Lines.{Lines}
use Rattle.forms.proofs.Spelled.{length_lines}
use Rattle.list_graph.specs.Lists.{CountsFit}
use Rattle.std.specs.List.{AllByRecursion}
use Rattle.table.specs.declared.contents.Counts.{Counts}
use Rattle.table.specs.declared.contents.Entry.{Entry}
use Rattle.table.specs.declared.contents.Keyword.TheVariants as key
use Rattle.table.specs.Table.{Contents, accepts, answered, answer_by, blank, contents_at, counts_of, entries_from, head_at, heads_at, over, table_answer, table_over, with_entries}
use Rattle.table.specs.Grammar.{EntryFits, IsTable, ReadsExactly, TableRead, entry_tokens, table_forms}
use Rattle.forms.proofs.Steps.{bind_parts, good_value, good_reading}
use Rattle.table.proofs.LinesRead.{head_from_reads, reads_from_head, entries_from_reads, entries_read}
use Rattle.table.proofs.Says.{entries_say}
use Rattle.table.proofs.Whole.{accepts_not_refuses, answer_over}

contents_from_reads : {p : Reading} {ts : List Tok} (c : Counts) (es : List Entry) → CountsFit c.modes c.commands c.flags → AllByRecursion (EntryFits c) es → Reads p ts → Lines ts (table_forms c es) → (q : Reading) × (contents_at p ≡ good (record { counts = c; entries = es }) q)
unfolding entries_from
contents_from_reads {p} {ts} c es within fits r lines =
    let (p1, us1, e1, r1, l1) = head_from_reads key.Modes 1 65 c.modes within.modes_low (omega (arith, within.modes_high)) r lines in
    let (p2, us2, e2, r2, l2) = head_from_reads key.Commands 1 17 c.commands within.commands_low (omega (arith, within.commands_high)) r1 l1 in
    let (p3, us3, e3, r3, l3) = head_from_reads key.Flags 0 17 c.flags (omega arith) (omega (arith, within.flags_high)) r2 l2 in
    let enough : length es < suc (length p3.rest) = omega (arith, length-map es entry_tokens, length_lines l3, length_reads r3) in
    let (q, e4) = entries_from_reads (suc (length p3.rest)) c es enough fits r3 l3 in
    (q, rw (e1, e2, e3, e4) refl)

-- the tokens of a table that was read
record ContentsRead (p : Reading) (t : Contents) : Type 0 where
  within : CountsFit t.counts.modes t.counts.commands t.counts.flags
  fits : AllByRecursion (EntryFits t.counts) t.entries
  tokens : List Tok
  reads : Reads p tokens
  lines : Lines tokens (table_forms t.counts t.entries)

contents_read : (p q : Reading) (t : Contents) → contents_at p ≡ good t q → ContentsRead p t
unfolding entries_from
contents_read p q t e =
    let (c, s, e1, f1) = bind_parts (heads_at p) _ t q e in
    let (es, s2, e2, f2) = bind_parts (entries_from c s) _ t q f1 in
    let (n, p1, g1, h1) = bind_parts (head_at key.Modes 1 65 p) _ c s e1 in
    let (k, p2, g2, h2) = bind_parts (head_at key.Commands 1 17 p1) _ c s h1 in
    let (f, p3, g3, h3) = bind_parts (head_at key.Flags 0 17 p2) _ c s h2 in
    let is = good_value f2 in
    let counts = good_value h3 in
    let (us, fits, r, l) = entries_read (suc (length s.rest)) c s s2 es e2 in
    let (ts3, l3, b3, r3, m3) = reads_from_head key.Flags 0 17 f g3 (subst (λ (x : Reading). Reads x us) (sym (good_reading h3)) r) l in
    let (ts2, l2, b2, r2, m2) = reads_from_head key.Commands 1 17 k g2 r3 m3 in
    let (ts1, l1, b1, r1, m1) = reads_from_head key.Modes 1 65 n g1 r2 m2 in
    let read : ContentsRead p (record { counts = counts_of n k f; entries = es }) = record {
      within = record { modes_low = l1; modes_high = omega arith; commands_low = l2; commands_high = omega arith; flags_high = omega arith };
      fits = subst (λ (x : Counts). AllByRecursion (EntryFits x) es) (sym counts) fits;
      tokens = ts1;
      reads = r1;
      lines = m1;
    } in
    subst (ContentsRead p) (ap (λ (x : Counts). record { counts = x; entries = es }) counts ∙ is) read

-- a text that is a table is read as one
contents_from_table : (text : List ℕ) (c : Counts) (es : List Entry) → IsTable text c es → (q : Reading) × (contents_at (start text 1) ≡ good (record { counts = c; entries = es }) q)
contents_from_table text c es t =
    contents_from_reads c es t.counts t.fits (reads_from_spells (start text 1) t.spelled) t.lines

table_from_contents : (text : List ℕ) (t : Contents) (q : Reading) → length text ≤ 32768 → contents_at (start text 1) ≡ good t q → IsTable text t.counts t.entries
table_from_contents text t q short e =
    let r = contents_read (start text 1) q t e in
    record {
      short = short;
      tokens = r.tokens;
      spelled = spells_from_reads (start text 1) r.reads;
      lines = r.lines;
      counts = r.within;
      fits = r.fits;
    }

-- what the memory says after a table was read
table_read : (text before after : List ℕ) (c : Counts) (o : Out Contents) → length text ≤ 32768 → contents_at (start text 1) ≡ o → accepts c after ≡ over before (table_over o) → TableRead text c after
table_read text before after c (good t q) short e h =
    let is = table_from_contents text t q short e in
    let counts : t.counts ≡ c = cc in
    let bytes : with_entries t.entries blank ++ drop 8320 before ≡ after = cc in
    subst (λ (x : Counts). TableRead text x after) counts (subst (TableRead text t.counts) bytes (record {
      entries = t.entries;
      is = is;
      only = λ d es other.
          let (r, f) = contents_from_table text d es other in
          let same = good_value (sym e ∙ f) in
          (ap (λ (x : Contents). x.counts) (sym same), ap (λ (x : Contents). x.entries) (sym same));
      says = entries_say t.counts is.counts t.entries is.fits (drop 8320 before);
    }))
table_read text before after c (bad r) short e h = cc

-- an answer that is no refusal came from the text
accepted : (text before after : List ℕ) (c : Counts) (short_memory long_text : Bool) → ltb (length before) 8320 ≡ short_memory → ltb 32768 (length text) ≡ long_text → accepts c after ≡ answer_by text before (cond short_memory (Some (before_text 1 9)) (cond long_text (Some (before_text 1 10)) None)) → (8320 ≤ length before) × TableRead text c after
accepted text before after c true l e f h = cc
accepted text before after c false true e f h = cc
accepted text before after c false false e f h = (ltb-false (length before) 8320 e, table_read text before after c (contents_at (start text 1)) (ltb-false 32768 (length text) f) refl h)

pub reads_exactly : (text before : List ℕ) (r : Result Counts Fault) (after : List ℕ) → answered r after ≡ table_answer text before → ReadsExactly text before r after
reads_exactly text before (Ok c) after h = accepted text before after c (ltb (length before) 8320) (ltb 32768 (length text)) refl refl h
reads_exactly text before (Err f) after h = λ long c es t.
    let (q, e) = contents_from_table text c es t in
    accepts_not_refuses (sym (h ∙ answer_over text before long t.short ∙ ap (λ (o : Out Contents). over before (table_over o)) e))

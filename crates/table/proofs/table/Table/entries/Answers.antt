use Rattle.std.proofs.Common.{◌≡◌, ℕ, zero, suc, ◌-◌, ◌<◌, List, ◌∷◌, Some, None, Option, sym, refl, ◌∙◌, subst, arith}
use Rattle.std.proofs.lemmas.Result.{err_from_is_err_and}
use Rattle.words.specs.Numbers.{Refused}
use Rattle.words.specs.Words.{Reading, Out, good, bad, bind}
use Rattle.table.specs.declared.contents.Counts.{Counts}
use Rattle.table.specs.declared.contents.Entry.{Entry}
use Rattle.table.specs.Table.{entry_at, within_entries, laid, with_entry, entry_eats, table_reading}
use Rattle.table.proofs.table.Table.entries.Goals as goal

less_one : (k : ℕ) → suc k - 1 ≡ k
less_one k = omega arith

-- an entry before others is set before them
laid_first : (e : Entry) (more : Out (List Entry)) (bytes : List ℕ) → laid (bind more (λ es q. good (e ∷ es) q)) bytes ≡ laid more (with_entry e bytes)
laid_first e (good es p) bytes = refl
laid_first e (bad f) bytes = refl

laid_more : (k m : ℕ) (c : Counts) (p q : Reading) (o : Option Entry) (e : Entry) (bytes bytes' : List ℕ) → m < k → good o q ≡ entry_at c p → o ≡ Some e → bytes' ≡ with_entry e bytes → laid (within_entries k c p) bytes ≡ laid (within_entries (k - 1) c q) bytes'
laid_more zero m c p q o e bytes bytes' lt h is set = absurd (omega arith)
laid_more (suc k) m c p q o e bytes bytes' lt h is set = rw (less_one, ← h, is, set) (laid_first e (within_entries k c q) bytes)

laid_all : (k m : ℕ) (c : Counts) (p q : Reading) (o : Option Entry) (bytes : List ℕ) → m < k → good o q ≡ entry_at c p → o ≡ None → laid (within_entries k c p) bytes ≡ good bytes q
laid_all zero m c p q o bytes lt h is = absurd (omega arith)
laid_all (suc k) m c p q o bytes lt h is = rw (← h, is) refl

entry_ate : (o : Option Entry) (e : Entry) (after before : ℕ) → o ≡ Some e → entry_eats o after before → after < before
entry_ate o e after before is h = subst (λ (x : Option Entry). entry_eats x after before) is h

laid_bad : (k m : ℕ) (c : Counts) (p : Reading) (f : Refused) (bytes : List ℕ) → m < k → bad f ≡ entry_at c p → laid (within_entries k c p) bytes ≡ bad f
laid_bad zero m c p f bytes lt h = absurd (omega arith)
laid_bad (suc k) m c p f bytes lt h = rw (← h) refl

pub returns-in_err-entry : goal.returns-in_err-entry
returns-in_err-entry c =
    let i = c.loop-entry.invariant in
    let p = err_from_is_err_and c.from_residual.result c.from_residual.ensures.1 in
    rw (p.1, p.2) (record { memory = sym (i.1 ∙ laid_bad i.0 _ c.args.counts (table_reading c.loop-entry.self) _ c.loop-entry.bytes i.2 c.in_err-entry.ensures.reads) })

pub loop-entry-preserved : goal.loop-entry-preserved
loop-entry-preserved c =
    let i = c.loop-entry.invariant in
    let r = c.in_ok-entry.ensures in (
      i.0 - 1,
      i.1 ∙ laid_more i.0 _ c.args.counts (table_reading c.loop-entry.self) (table_reading c.entry.new.self) _ _ c.loop-entry.bytes _ i.2 r.reads c.in-Some.is c.set_in.ensures.memory,
      omega (arith, i.2, entry_ate _ _ _ _ c.in-Some.is r.eats),
    )

pub returns : goal.returns
returns c =
    let i = c.loop-entry.invariant in
    record { memory = sym (i.1 ∙ laid_all i.0 _ c.args.counts (table_reading c.loop-entry.self) (table_reading c.entry.new.self) _ c.loop-entry.bytes i.2 c.in_ok-entry.ensures.reads c.in_default.is) }

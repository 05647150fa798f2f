-- The first eight bytes from the start of the set on.
use Rattle.std.proofs.Common.{ℕ, ◌+◌, ◌-◌, List, get_or, take, drop, ap, ◌∙◌, arith}
use Rattle.std.proofs.lemmas.List.{get_or-drop, get_or-take}
use Rattle.labeller.proofs.row_set.RowSet.bytes.Goals as goal

pub returns-clause-answer : goal.returns-clause-answer
returns-clause-answer c =
    let table = c.args.table.now in
    let start = c.start-start.result in
    let first = rw c.unwrap.ensures at c.first_chunk.ensures.cases in
    λ i h.
    ap (λ (xs : List ℕ). get_or xs i 0) first.same
    ∙ get_or-take 8 (take (24576 - start) (drop start table)) i 0 h
    ∙ get_or-take (24576 - start) (drop start table) i 0 (omega arith)
    ∙ get_or-drop start table i 0
    ∙ ap (λ (at : ℕ). get_or table (at + i) 0) c.start-start.ensures.answer

-- One row more is done, until all are.
use Rattle.std.proofs.Common.{◌≡◌, ℕ, List, length, get_or, replicate, ap, ◌∙◌, arith, rules}
use Rattle.std.proofs.lemmas.List.{get_or-replicate}
use Rattle.label_table.proofs.Building.{so_far_none, so_far_more}
use Rattle.labeller.proofs.rows.label_rows.Goals as goal

pub loop-q-init : goal.loop-q-init
loop-q-init g c =
    let filled : c.fill.new.self ≡ replicate (length c.args.table.now) 0 = search rules in
    so_far_none _ _ _ (λ i h. ap (λ (xs : List ℕ). get_or xs i 0) filled ∙ get_or-replicate (length c.args.table.now) i 0 0 (omega arith))

pub loop-q-preserved : goal.loop-q-preserved
loop-q-preserved g c =
    so_far_more (g.G.Graph.meaning c.args.graph.now) (g.G.Graph.limits c.args.graph.now) c.args.rows.now c.loop-q.q c.loop-q.table
    c.label_row.new.table c.requires.orderly c.loop-q-test.true c.requires.few c.loop-q.invariant c.label_row.ensures.filled

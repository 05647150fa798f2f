-- Where all modes are let in, all walks are covered.
use Rattle.std.proofs.Common.{◌≡◌, ℕ, subst, ◌∙◌, arith}
use Rattle.label_table.specs.Changes.{Covered}
use Rattle.label_table.proofs.Closing.{covered_all}
use Rattle.labeller.proofs.closing.Pairs.let_in_below.Goals as goal

pub returns-clause-closed : goal.returns-clause-closed
returns-clause-closed c =
    let n = c.args.self.modes in
    let q = c.args.self.row in
    let end : c.loop-k.k ≡ c.args.end = omega arith in
    λ all. covered_all n q c.args.table.now c.loop-k.table (subst (λ (k : ℕ). Covered n q k c.args.table.now c.loop-k.table) (end ∙ all) c.loop-k.invariant)

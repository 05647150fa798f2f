-- One mode more leads to u, or does not.
use Rattle.std.proofs.Common.{ℕ, ◌+◌, ◌<◌, ◌≤◌, List, sym, ◌∙◌, subst, arith}
use Rattle.label_table.specs.Changes.{Gained}
use Rattle.label_table.specs.Entries.{In, Turned}
use Rattle.label_table.proofs.Changes.{clear_not_in, only_bit, below_found, below_passed}
use Rattle.labeller.proofs.programs.add_turned.Goals as goal
use Rattle.labeller.proofs.programs.add_turned.Goals.{then-is_joined, else-is_joined}

pub loop-v-preserved : goal.loop-v-preserved
loop-v-preserved g c =
    let old = c.args.table.now in
    let t = c.loop-v.table in
    let v = c.loop-v.v in
    let m = g.G.Graph.meaning c.args.graph.now in
    let few : m.modes ≤ 64 = (g.G.Graph.limits c.args.graph.now).modes_high in
    let low : v < 64 = omega (arith, c.modes-v-end.ensures.answer) in
    let q = c.args.set.row in
    let u = c.args.set.mode in
    let r = c.args.r in
    let S : ℕ → Type 0 = λ v. In old r v u in
    let P : List ℕ → Type 0 = λ new. Gained q u (Turned (v + 1) old r u) old new in
    let same = only_bit q r v u old t (λ e. omega arith) low (omega arith) c.loop-v.invariant.only in
    elim c.if-is_joined.branch [
      | then-is_joined a ↦
          subst P (sym a.table-is)
          (below_found q u S v v old t _ (omega arith) (λ x h l. absurd (omega arith))
          (sym same ∙ sym c.is_joined.ensures.answer ∙ a.if-is_joined.true)
          c.loop-v.invariant a.add_mode.ensures.gained)
      | else-is_joined a ↦
          subst P (sym a.table-is)
          (below_passed q u S v old t
          (λ i. clear_not_in r v u t (sym c.is_joined.ensures.answer ∙ a.if-is_joined.false) (same ∙ i))
          c.loop-v.invariant)
    ]

-- One mode more is in between, or row r does not lead there.
use Rattle.std.proofs.Common.{ℕ, ◌+◌, ◌<◌, ◌≤◌, List, sym, ◌∙◌, subst, arith}
use Rattle.label_table.specs.Changes.{Gained}
use Rattle.label_table.specs.Entries.{In, Through}
use Rattle.label_table.proofs.Changes.{clear_not_in, only_bit, upto_gained, upto_passed}
use Rattle.labeller.proofs.programs.add_through.Goals as goal
use Rattle.labeller.proofs.programs.add_through.Goals.{then-has_mode, else-has_mode}

pub loop-w-preserved : goal.loop-w-preserved
loop-w-preserved g c =
    let old = c.args.table.now in
    let t = c.loop-w.table in
    let w = c.loop-w.w in
    let m = g.G.Graph.meaning c.args.graph.now in
    let few : m.modes ≤ 64 = (g.G.Graph.limits c.args.graph.now).modes_high in
    let low : w < 64 = omega (arith, c.modes-w-end.ensures.answer) in
    let q = c.args.set.row in
    let u = c.args.set.mode in
    let r = c.args.r in
    let s = c.args.s in
    let D : ℕ → ℕ → Type 0 = λ w v. In old r u w × In old s w v in
    let P : List ℕ → Type 0 = λ new. Gained q u (Through (w + 1) old r s u) old new in
    let first = only_bit q r u w old t (λ e. omega arith) (omega arith) low c.loop-w.invariant.only in
    elim c.if-has_mode.branch [
      | then-has_mode a ↦
          subst P (sym a.table-is)
          (upto_gained q u D w (In t s w) old t _
          (λ v h i. (sym first ∙ sym c.has_mode.ensures.answer ∙ a.if-has_mode.true, sym (only_bit q s w v old t (λ e. omega arith) (omega arith) h c.loop-w.invariant.only) ∙ i))
          (λ v h d. only_bit q s w v old t (λ e. omega arith) (omega arith) h c.loop-w.invariant.only ∙ d.1)
          c.loop-w.invariant a.add_set.ensures.gained)
      | else-has_mode a ↦
          subst P (sym a.table-is)
          (upto_passed q u D w old t
          (λ v h d. clear_not_in r u w t (sym c.has_mode.ensures.answer ∙ a.if-has_mode.false) (first ∙ d.0))
          c.loop-w.invariant)
    ]

-- One mode more is in the set, or the formula is not true there.
use Rattle.std.proofs.Common.{ℕ, ◌+◌, ◌<◌, ◌≤◌, List, sym, subst, arith}
use Rattle.std.proofs.lemmas.Bool.Decides.{not_from_Decides}
use Rattle.label_table.specs.Changes.{Gained}
use Rattle.label_table.specs.Entries.{FormulaSays}
use Rattle.label_table.proofs.Building.{formula_kept, formula_still}
use Rattle.label_table.proofs.Changes.{below_found, below_passed}
use Rattle.labeller.proofs.formulas.label_formula.Goals as goal
use Rattle.labeller.proofs.formulas.label_formula.Goals.{then-says_true, else-says_true}

pub loop-u-preserved : goal.loop-u-preserved
loop-u-preserved g c =
    let m = g.G.Graph.meaning c.args.graph.now in
    let few : m.modes ≤ 64 = (g.G.Graph.limits c.args.graph.now).modes_high in
    let old = c.args.table.now in
    let t = c.loop-u.table in
    let u = c.loop-u.u in
    let S : ℕ → Type 0 = FormulaSays m old c.args.placed.row in
    let P : List ℕ → Type 0 = λ new. Gained c.args.placed.number 0 (λ v. (v < u + 1) × S v) old new in
    let low : u < 64 = omega (arith, c.modes-u-end.ensures.answer) in
    elim c.if-says_true.branch [
      | then-says_true w ↦
          subst P (sym w.table-is)
          (below_found c.args.placed.number 0 S u u old t _ (omega arith) (λ x a b. absurd (omega arith))
          (formula_kept m c.args.placed.number c.args.placed.row old t u few c.args.placed.parts_before c.loop-u.invariant.only low (c.says_true.ensures.exactly.0 w.if-says_true.true))
          c.loop-u.invariant w.add_mode.ensures.gained)
      | else-says_true w ↦
          subst P (sym w.table-is)
          (below_passed c.args.placed.number 0 S u old t
          (λ says.
          not_from_Decides c.says_true.result c.says_true.ensures.exactly w.if-says_true.false
          (formula_still m c.args.placed.number c.args.placed.row old t u few c.args.placed.parts_before c.loop-u.invariant.only low says))
          c.loop-u.invariant)
    ]

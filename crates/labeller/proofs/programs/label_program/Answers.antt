-- A repetition is closed after its first steps.
use Rattle.std.proofs.Common.{ℕ, ◌<◌, ◌≤◌, sym, subst}
use Rattle.logic.specs.declared.row.Row.{Row}
use Rattle.logic.specs.declared.row.Row.TheVariants.{Repetition}
use Rattle.label_table.specs.Changes.{Closed, Filled}
use Rattle.label_table.specs.Entries.{Entry, OneStep}
use Rattle.label_table.proofs.Filling.{filled_repetition}
use Rattle.labeller.proofs.programs.label_program.Goals as goal

pub returns-in-Repetition : goal.returns-in-Repetition
returns-in-Repetition g c =
    let m = g.G.Graph.meaning c.args.graph.now in
    let few : m.modes ≤ 64 = (g.G.Graph.limits c.args.graph.now).modes_high in
    let old = c.args.table.now in
    let t = c.add_all_steps.new.table in
    let new = c.close.new.table in
    let q = c.args.placed.number in
    let r = c.in-Repetition.field-0 in
    let steps : Filled q (λ u v. (u < m.modes) × OneStep m old (Repetition r) u v) old t =
    subst (λ (row : Row). Filled q (λ u v. (u < m.modes) × OneStep m old row u v) old t) c.in-Repetition.is c.add_all_steps.ensures.filled in
    record {
      filled =
          subst (λ (row : Row). Filled q (Entry m old row) old new) (sym c.in-Repetition.is)
          (filled_repetition m q r old t few steps new
          (subst (λ (n : ℕ). Closed n q t new) c.modes.ensures.answer c.close.ensures.closed));
    }

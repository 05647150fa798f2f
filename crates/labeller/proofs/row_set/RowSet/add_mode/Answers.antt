-- The set gains the mode.
use Rattle.std.proofs.Common.{◌≡◌, ℕ, List, sym, ap, ◌∙◌, subst, arith}
use Rattle.sets.specs.Sets.{with_member}
use Rattle.label_table.specs.Changes.{Gained}
use Rattle.label_table.proofs.Changes.{gained_one}
use Rattle.labeller.proofs.row_set.RowSet.add_mode.Goals as goal

pub returns : goal.returns
returns c =
    record {
      gained = subst (λ (t : List ℕ). Gained c.args.self.row c.args.self.mode (λ x. x ≡ c.args.v) c.args.table.now t)
          (sym (c.insert.ensures.memory ∙ ap (λ (at : ℕ). with_member c.args.table.now at c.args.v) c.start.ensures.answer))
          (gained_one c.args.self.row c.args.self.mode c.args.v c.args.table.now (omega arith) (omega arith) (omega arith));
    }

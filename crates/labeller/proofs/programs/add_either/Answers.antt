-- The set gains the one set and then the other, which the first has not changed.
use Rattle.std.proofs.Common.{◌⊎◌, sym, ◌∙◌, inl, inr, ⊎_elim, arith}
use Rattle.label_table.specs.Entries.{In}
use Rattle.label_table.proofs.Changes.{only_bit, gained_both, gained_like}
use Rattle.labeller.proofs.programs.add_either.Goals as goal

pub returns : goal.returns
returns c =
    let q = c.args.set.row in
    let u = c.args.set.mode in
    let s = c.args.s in
    let old = c.args.table.now in
    let t = c.add_set.new.table in
    let first = c.add_set.ensures.gained in
    record {
      gained =
          gained_like q u (λ v. In old c.args.r u v ⊎ In t s u v) (λ v. In old c.args.r u v ⊎ In old s u v) old c.add_set-2.new.table
          (λ v h p. ⊎_elim inl (λ i. inr (sym (only_bit q s u v old t (λ e. omega arith) (omega arith) h first.only) ∙ i)) p)
          (λ v h p. ⊎_elim inl (λ i. inr (only_bit q s u v old t (λ e. omega arith) (omega arith) h first.only ∙ i)) p)
          (gained_both q u (In old c.args.r u) (In t s u) old t c.add_set-2.new.table first c.add_set-2.ensures.gained);
    }

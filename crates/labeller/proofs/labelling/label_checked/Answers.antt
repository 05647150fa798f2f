-- The front of the memory is a table, and what lies behind it stays.
use Rattle.std.proofs.Common.{◌≡◌, ℕ, ◌+◌, ◌-◌, List, ◌++◌, length, get_or, drop, inr, sym, refl, ap, ◌∙◌, subst, arith, length-append}
use Rattle.std.proofs.lemmas.Bool.Decides.{not_from_Decides}
use Rattle.std.proofs.lemmas.List.{get_or_append_left, get_or-append_right, get_or-drop, length-drop, take-append-drop}
use Rattle.label_table.proofs.Behind.{table_behind}
use Rattle.label_table.proofs.Truths.{so_far_all}
use Rattle.label_table.specs.Labels.{LabelTable}
use Rattle.logic.specs.Rows.{Orderly}
use Rattle.logic.specs.declared.row.Row.{Row}
use Rattle.labeller.proofs.labelling.label_checked.Goals as goal

pub returns-then-not-fits : goal.returns-then-not-fits
returns-then-not-fits g c =
    let first = c.in-Some.ensures.cases in
    record {
      labelled = (ap (λ (xs : List ℕ). xs ++ drop 24576 c.args.memory.now) first.same ∙ take-append-drop 24576 c.args.memory.now, inr (refl, first.enough, not_from_Decides c.fits.result c.fits.ensures.exactly c.if-not-fits.true));
    }

pub label_rows-requires-clause-orderly : goal.label_rows-requires-clause-orderly
label_rows-requires-clause-orderly g c =
    subst Orderly (sym c.rows.ensures.answer) (c.fits.ensures.exactly.0 c.if-not-fits.false).orderly

pub returns : goal.returns
returns g c =
    let m = g.G.Graph.meaning c.args.graph.now in
    let old = c.args.memory.now in
    let new = c.label_rows.new.table in
    let rest = drop 24576 old in
    let first = c.in-Some.ensures.cases in
    let long : length new ≡ 24576 = omega (arith, length-append new rest, length-drop 24576 old, first.enough) in
    let table : LabelTable m c.rows.result.now new =
    so_far_all m (g.G.Graph.limits c.args.graph.now) c.rows.result.now new (subst Orderly (sym c.rows.ensures.answer) (c.fits.ensures.exactly.0 c.if-not-fits.false).orderly)
    c.label_rows.ensures.done (omega arith) (λ i h. omega (arith, c.type_inv.memory i, get_or_append_left new rest 0 i (omega arith))) in
    record {
      labelled = record {
        enough = first.enough;
        fits = c.fits.ensures.exactly.0 c.if-not-fits.false;
        table =
            subst (λ (rows : List Row). LabelTable m rows (new ++ rest)) c.rows.ensures.answer
            (table_behind m (g.G.Graph.limits c.args.graph.now).modes_high c.rows.result.now c.rows.ensures.limit new rest long table);
        size = omega (arith, length-append new rest, length-drop 24576 old, first.enough);
        beyond = λ i h.
            let place : 24576 + (i - 24576) ≡ i = omega arith in
            get_or-append_right new rest 24576 i 0 long h ∙ get_or-drop 24576 old (i - 24576) 0 ∙ ap (λ (j : ℕ). get_or old j 0) place;
      };
    }

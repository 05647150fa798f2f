-- One row more is in the sheet, or there is no room for it.
use Rattle.std.proofs.Common.{◌<◌, ◌≤◌, length, refl, arith, rules}
use Rattle.std.proofs.lemmas.List.{take_all, length-drop}
use Rattle.std.proofs.lemmas.Bool.Decides.{nat_tests}
use Rattle.logic.specs.Sheets.{row_limit, sheet_rows}
use Rattle.label_export.specs.Answers.{NoRows}
use Rattle.label_export.proofs.Packing.{Front, so_far_none, so_far_more, no_room}
use Rattle.label_export.proofs.packed.put_rows.Goals as goal

pub loop-rest-init : goal.loop-rest-init
loop-rest-init c = (so_far_none c.args.bytes.now (sheet_rows c.args.sheet.now) c.requires, refl)

pub returns-in_err-ok_or-clause-rows : goal.returns-in_err-ok_or-clause-rows
returns-in_err-ok_or-clause-rows c =
    let rest = c.loop-rest.rest.now in
    let rows = sheet_rows c.loop-rest.sheet in
    let front : Front rest c.in_ok-row.row = search rules in
    let full : row_limit ≤ length rows = grind (arith, nat_tests) in
    let none : NoRows c.args.bytes.now = no_room c.args.bytes.now rows rest c.in_ok-row.row front full c.loop-rest.invariant.0 in
    search rules

pub loop-rest-preserved : goal.loop-rest-preserved
loop-rest-preserved c =
    let rest = c.loop-rest.rest.now in
    let rows = sheet_rows c.loop-rest.sheet in
    let front : Front rest c.in_ok-row.row = search rules in
    let room : length rows < row_limit = grind (arith, nat_tests) in (
      so_far_more c.args.bytes.now rows rest c.in_ok-row.row _ _ front room c.push_row.ensures.rows
          (take_all _ _ (omega (arith, length-drop 3 rest))) c.loop-rest.invariant.0,
      search rules,
    )

-- From the claims of a text to the whole sheet.
use Rattle.std.proofs.Common.{◌≡◌, ℕ, ◌≤◌, true, false, List, [], length, take, Ok, Err, Result, sym, refl, ap, ◌∙◌}
use Rattle.std.specs.Result.{is_err}
use Rattle.std.proofs.lemmas.List.{take_all}
use Rattle.std.proofs.lemmas.Bool.{le-ltb, false≢true}
use Rattle.words.specs.declared.fault.Fault.{Fault}
use Rattle.words.specs.Words.{text_limit}
use Rattle.logic.specs.declared.row.Claim.{Claim}
use Rattle.logic.specs.declared.row.Row.{Row}
use Rattle.logic.specs.declared.sheet.Sheet.{Sheet}
use Rattle.logic.specs.Sheets.{Empty}
use Rattle.sheet.specs.Reading.{answered, begun, claims_from, lines_read, sheet_answer, sheet_over}

module _ (text : List ℕ) (short : length text ≤ text_limit) where
  whole_text : sheet_over (claims_from [] (begun (take text_limit text))) ≡ sheet_over (claims_from [] (begun text))
  whole_text = ap (λ (t : List ℕ). sheet_over (claims_from [] (begun t))) (take_all text_limit text short)

  -- what was read stays, and the sheet is empty again after a fault
  pub sheet_kept : (r : Result (Unit {0}) Fault) (s : Sheet) → is_err r ≡ false → lines_read r s ≡ sheet_over (claims_from [] (begun (take text_limit text))) → answered r s ≡ sheet_over (claims_from [] (begun text))
  sheet_kept (Ok x) s ok e = e ∙ whole_text
  sheet_kept (Err f) s ok e = absurd (false≢true (sym ok))

  pub sheet_cleared : (r : Result (Unit {0}) Fault) (s clean : Sheet) → is_err r ≡ true → Empty clean → lines_read r s ≡ sheet_over (claims_from [] (begun (take text_limit text))) → answered r clean ≡ sheet_over (claims_from [] (begun text))
  sheet_cleared (Ok x) s clean err none e = absurd (false≢true err)
  sheet_cleared (Err f) s clean err (rows, claims) e = rw (rows, claims) (e ∙ whole_text)

pub answer_over : (text : List ℕ) (rows : List Row) (claims : List Claim) → length text ≤ text_limit → sheet_answer text rows claims ≡ sheet_over (claims_from [] (begun text))
answer_over text rows claims short = let h = le-ltb text_limit (length text) short in rw h refl

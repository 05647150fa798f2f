-- The loop over the bytes: the sheet has the rows of those behind it.
use Rattle.std.proofs.Common.{◌≡◌, length}
use Rattle.logic.specs.Sheets.{sheet_claims, sheet_rows}
use Rattle.label_export.proofs.Packing.{SoFar}
use Rattle.label_export.proofs.packed.put_rows.Given as goal

abbrev pub invariant-loop-rest : goal.invariant-loop-rest
invariant-loop-rest l = SoFar l.bytes (sheet_rows l.sheet) l.rest × (sheet_claims l.sheet ≡ sheet_claims l.initial.sheet)

abbrev pub decreases-loop-rest : goal.decreases-loop-rest
decreases-loop-rest l = length l.rest

-- What a claim sheet holds, and what it holds after a row or a claim was handed to it.
use Rattle.std.specs.Prelude.{◌≡◌, ℕ, Bool, cond, List, [], ◌∷◌, ◌++◌, length, Some, None, vec_items, Option, nat_lt}
use Rattle.logic.specs.declared.row.Claim.{Claim}
use Rattle.logic.specs.declared.row.Row.{Row}
use Rattle.logic.specs.declared.sheet.Sheet.{Sheet}

-- the greatest number of rows of a sheet
abbrev pub row_limit : ℕ
row_limit = 48

-- the greatest number of claims of a sheet
abbrev pub claim_limit : ℕ
claim_limit = 16

-- the rows of a sheet, in order
abbrev pub sheet_rows : Sheet → List Row
sheet_rows s = vec_items s.rows.items

-- the claims of a sheet, in order
abbrev pub sheet_claims : Sheet → List Claim
sheet_claims s = vec_items s.claims.items

-- no rows and no claims
abbrev pub Empty : Sheet → Type 0
Empty s = (sheet_rows s ≡ []) × (sheet_claims s ≡ [])

-- the rows with one more at the end, or the same rows where there is no room
abbrev pub rows_with : Row → List Row → List Row
rows_with row rows = cond (nat_lt (length rows) row_limit) (rows ++ row ∷ []) rows

-- the number of a row that is put after these, or none where there is no room
abbrev pub next_number : List Row → Option ℕ
next_number rows = cond (nat_lt (length rows) row_limit) (Some (length rows)) None

-- whether there is room for one more claim
abbrev pub claim_fits : List Claim → Bool
claim_fits claims = nat_lt (length claims) claim_limit

-- the claims with one more at the end, or the same claims where there is no room
abbrev pub claims_with : Claim → List Claim → List Claim
claims_with claim claims = cond (claim_fits claims) (claims ++ claim ∷ []) claims

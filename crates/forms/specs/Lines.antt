-- Which forms the lines of a text hold, as a relation between its tokens and the tokens of each form.
use Rattle.std.specs.Prelude.{List, [], ◌∷◌, ◌++◌}
use Rattle.words.specs.Words.{Tok, opens, line_end}

-- A line ends at its line end or at the text's end, and holds nothing or one form, which begins with a bracket. What stands
-- inside a form is for the grammar of each text to say; it never has a line end.
pub data Lines : List Tok → List (List Tok) → Type 0 where
  no_line : Lines [] []
  blank_line : {ts : List Tok} {forms : List (List Tok)} → Lines ts forms → Lines (line_end ∷ ts) forms
  last_form : {inner : List Tok} → Lines (opens ∷ inner) ((opens ∷ inner) ∷ [])
  form_line : {inner ts : List Tok} {forms : List (List Tok)} → Lines ts forms → Lines (opens ∷ (inner ++ line_end ∷ ts)) ((opens ∷ inner) ∷ forms)

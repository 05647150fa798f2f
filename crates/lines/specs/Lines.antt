-- The bytes of each line that a program prints.
use Rattle.std.specs.Prelude.{ℕ, List, ◌++◌, codes, decimal}
use Rattle.words.specs.Numbers.{Refused}

-- (word n)
abbrev pub number_line : List ℕ → ℕ → List ℕ
number_line word n = codes "(" ++ (word ++ (codes " " ++ (decimal n ++ codes ")")))

-- (word line column refused number)
abbrev pub refusal_line : List ℕ → Refused → List ℕ
refusal_line word r = codes "(" ++ (word ++ (codes " " ++ (decimal r.place.line ++ (codes " " ++ (decimal r.place.column ++ (codes " refused " ++ (decimal r.number ++ codes ")")))))))

-- (word refused number)
abbrev pub refused_line : List ℕ → ℕ → List ℕ
refused_line word n = codes "(" ++ (word ++ (codes " refused " ++ (decimal n ++ codes ")")))

-- The words that say what a memory holds after a call.
use Rattle.std.specs.Prelude.{ℕ, ◌+◌, ◌-◌, ◌^◌, min, cond, List, ◌++◌, ◌==◌, fold, count_ones, codes, decimal}
use Rattle.std.specs.List.{list_all}

-- how many bits of the bytes are set; a count past the greatest number of 32 bits stays there
abbrev pub bits_set : List ℕ → ℕ
bits_set bytes = fold (λ n b. min (n + count_ones b) (2 ^ 32 - 1)) 0 bytes

-- untouched, where each byte is what it was before; else how many bits are set
abbrev pub front_text : List ℕ → ℕ → List ℕ
front_text bytes before = cond (list_all (λ b. b == before) bytes) (codes "untouched") (decimal (bits_set bytes) ++ codes " bits set")

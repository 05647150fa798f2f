-- What the constructor of a dial graph makes, and on which ground it refuses.
use Rattle.std.specs.Prelude.{◌≡◌, ℕ, ◌<◌, List, Ok, Err, Result}
use Rattle.graph.specs.Meaning.{Meaning, Limits}
use Rattle.graph.specs.Refusals.{refusal_number}
use Rattle.graph.specs.declared.refusal.Refusal.{Refusal}
use Rattle.dial_graph.specs.Dials.{Fits, dial_limits, dial_meaning, number, position, settings, sizes_of}
use Rattle.dial_graph.specs.declared.rules.Rule.{Rule}
use Rattle.dial_graph.specs.declared.rules.DialFlag.{DialFlag}
use Rattle.dial_graph.specs.declared.sizes.Sizes.{Sizes}
use Rattle.dial_graph.specs.declared.dials.DialGraph.{DialGraph}

-- what a dial graph means
abbrev pub meaning_of : DialGraph → Meaning
meaning_of g = dial_meaning g.sizes g.commands g.rules.now g.flags.now

-- so every dial graph keeps the limits
pub limits_of : (g : DialGraph) → Limits (meaning_of g)
limits_of g = dial_limits g.sizes g.commands g.rules.now g.flags.now g.counts

-- the setting with the dials at x0, x1 and x2 has a number that is a mode, and at that mode the dials are at x0, x1 and x2
pub record HasNumber (s : Sizes) (x0 x1 x2 : ℕ) : Type 0 where
  pub is_mode : number s x0 x1 x2 < settings s
  pub first : position s 0 (number s x0 x1 x2) ≡ x0
  pub second : position s 1 (number s x0 x1 x2) ≡ x1
  pub third : position s 2 (number s x0 x1 x2) ≡ x2

-- every setting has its number
abbrev pub AllHaveNumbers : Sizes → Type 0
AllHaveNumbers s = (x0 x1 x2 : ℕ) → x0 < s.first → x1 < s.second → x2 < s.third → HasNumber s x0 x1 x2

-- at mode u each dial is at one of its positions, and u is the number of that setting
pub record IsSetting (s : Sizes) (u : ℕ) : Type 0 where
  pub first : position s 0 u < s.first
  pub second : position s 1 u < s.second
  pub third : position s 2 u < s.third
  pub its_number : number s (position s 0 u) (position s 1 u) (position s 2 u) ≡ u

-- every mode is a setting
abbrev pub AllAreSettings : Sizes → Type 0
AllAreSettings s = (u : ℕ) → u < settings s → IsSetting s u

-- the limits are kept, the meaning m is that of the dials, the commands, the rules and the flags that are given, every setting
-- has its number, and every mode is a setting
pub record Accepted (dials : List ℕ) (c : ℕ) (rules : List Rule) (flags : List DialFlag) (m : Meaning) : Type 0 where
  pub fits : Fits dials c rules flags
  pub means : m ≡ dial_meaning (sizes_of dials) c rules flags
  pub numbers : AllHaveNumbers (sizes_of dials)
  pub modes : AllAreSettings (sizes_of dials)

-- what is made of the dials, the commands, the rules and the flags; a refusal has number 16 and some limit is then broken
abbrev pub Made : List ℕ → ℕ → List Rule → List DialFlag → Result DialGraph Refusal → Type 0
Made dials c rules flags (Ok g) = Accepted dials c rules flags (meaning_of g)
Made dials c rules flags (Err e) = (refusal_number e ≡ 16) × (Fits dials c rules flags → ⊥)

-- The graph that dials, rules and flags mean. A mode is a setting of the dials.
use Rattle.std.specs.Prelude.{◌≡◌, ℕ, ◌+◌, ◌*◌, ◌/◌, ◌%◌, ◌<◌, ◌≤◌, min, Bool, cond, ◌&&◌, List, length, ℤ, pos, negsuc, neg_ℤ, ◌≤ℤ◌, ◌==◌, nat_le, nat_lt, slice_index_or, refl}
use Rattle.std.proofs.Common.{ap, ◌∙◌, arith, subst}
use Rattle.std.proofs.lemmas.Bool.{and_parts, ltb-true}
use Rattle.std.proofs.lemmas.Nat.{mul-le}
use Rattle.std.specs.List.{AllByRecursion, list_any}
use Rattle.graph.specs.Meaning.{Meaning, Limits, mode_limit, command_limit, flag_limit}
use Rattle.graph.specs.Held.{held, held_within}
use Rattle.dial_graph.specs.Lists.{test_at}
use Rattle.dial_graph.specs.declared.rules.Rule.{Rule}
use Rattle.dial_graph.specs.declared.rules.DialFlag.{DialFlag}
use Rattle.dial_graph.specs.declared.sizes.Sizes.{Sizes}

-- the greatest number of dials
abbrev pub dial_limit : ℕ
dial_limit = 3

-- the greatest number of positions of a dial
abbrev pub position_limit : ℕ
position_limit = 8

-- the greatest number of rules
abbrev pub rule_limit : ℕ
rule_limit = 32

-- the greatest step of a rule, up or down
abbrev pub step_limit : ℕ
step_limit = 7

-- How many positions each of three dials has, where the list has that of each dial that is there, first dial first. A dial
-- that is missing counts as a dial of 1 position.
abbrev pub sizes_of : List ℕ → Sizes
sizes_of dials = record { first = slice_index_or dials 0 1; second = slice_index_or dials 1 1; third = slice_index_or dials 2 1 }

-- how many settings the dials have: each is a mode
abbrev pub settings : Sizes → ℕ
settings s = s.first * s.second * s.third

-- the number of the setting with the dials at x0, x1 and x2
abbrev pub number : Sizes → ℕ → ℕ → ℕ → ℕ
number s x0 x1 x2 = x0 + s.first * x1 + s.first * s.second * x2

-- the position of dial i at mode u
abbrev pub position : Sizes → ℕ → ℕ → ℕ
position s i u = cond (i == 0) (u % s.first) (cond (i == 1) (u / s.first % s.second) (u / (s.first * s.second)))

-- position x is in the range from low to high, both included
abbrev pub in_range : ℕ → ℕ → ℕ → Bool
in_range low high x = nat_le low x && nat_le x high

-- Position y is position x moved by the step: k up where the step is k, and k + 1 down where it is −(k + 1). A dial never
-- wraps: where the step leads off the dial, no position is x moved by it.
abbrev pub moved_by : ℤ → ℕ → ℕ → Bool
moved_by (pos k) x y = y == x + k
moved_by (negsuc k) x y = x == y + (k + 1)

-- from u to v dial i is moved by the rule's step if it is the moved dial, and is left where it is if not
abbrev pub dial_follows : Sizes → Rule → ℕ → ℕ → ℕ → Bool
dial_follows s r i u v =
    cond (i == r.moved) (moved_by r.step (position s i u) (position s i v)) (position s i u == position s i v)

-- v is u with the rule's moved dial moved by its step, compared dial by dial
abbrev pub follows : Sizes → Rule → ℕ → ℕ → Bool
follows s r u v = dial_follows s r 0 u v && (dial_follows s r 1 u v && dial_follows s r 2 u v)

-- the rule is one of command a, its guard dial is in its range at u, and v is u with its moved dial moved
abbrev pub rule_joins : Sizes → ℕ → ℕ → ℕ → Rule → Bool
rule_joins s a u v r = r.command == a && (in_range r.low r.high (position s r.guard u) && follows s r u v)

-- the flag's dial is in its range at u
abbrev pub flag_shows : Sizes → ℕ → DialFlag → Bool
flag_shows s u f = in_range f.low f.high (position s f.dial u)

-- The graph of n modes, c commands and f flags: a flag stands where its dial is in its range, and a command joins where some
-- rule does.
abbrev pub counted_meaning : ℕ → ℕ → ℕ → Sizes → List Rule → List DialFlag → Meaning
counted_meaning n c f s rules flags = record {
  modes = n;
  commands = c;
  flags = f;
  stands = λ p u. nat_lt p f && (nat_lt u n && test_at (flag_shows s u) flags p);
  joins = λ a u v. nat_lt a c && (nat_lt u n && (nat_lt v n && list_any (rule_joins s a u v) rules));
}

-- the graph of the dials, with c commands, the rules and the flags: its modes are all settings of the dials
abbrev pub dial_meaning : Sizes → ℕ → List Rule → List DialFlag → Meaning
dial_meaning s c rules flags = counted_meaning (settings s) c (length flags) s rules flags

-- every dial has 1 to 8 positions
pub record SizesFit (s : Sizes) : Type 0 where
  pub first_low : 1 ≤ s.first
  pub first_high : s.first ≤ position_limit
  pub second_low : 1 ≤ s.second
  pub second_high : s.second ≤ position_limit
  pub third_low : 1 ≤ s.third
  pub third_high : s.third ≤ position_limit

-- where there are k dials and c commands, those that the rule names are there, and its step is −7 to 7
pub record RuleFits (k c : ℕ) (r : Rule) : Type 0 where
  pub command_there : r.command < c
  pub guard_there : r.guard < k
  pub moved_there : r.moved < k
  pub step_low : neg_ℤ (pos step_limit) ≤ℤ r.step
  pub step_high : r.step ≤ℤ pos step_limit

-- where there are k dials, the one that the flag names is there
abbrev pub FlagFits : ℕ → DialFlag → Type 0
FlagFits k f = f.dial < k

-- what dials, commands, rules and flags keep for a graph to be made of them
pub record Fits (dials : List ℕ) (c : ℕ) (rules : List Rule) (flags : List DialFlag) : Type 0 where
  pub dials_low : 1 ≤ length dials
  pub dials_high : length dials ≤ dial_limit
  pub positions : SizesFit (sizes_of dials)
  pub settings_high : settings (sizes_of dials) ≤ mode_limit
  pub commands_low : 1 ≤ c
  pub commands_high : c ≤ command_limit
  pub rules_high : length rules ≤ rule_limit
  pub flags_high : length flags ≤ flag_limit
  pub rules_fit : AllByRecursion (RuleFits (length dials) c) rules
  pub flags_fit : AllByRecursion (FlagFits (length dials)) flags

-- what the sizes, the commands and the flags of a dial graph keep
pub record CountsFit (s : Sizes) (c : ℕ) (flags : List DialFlag) : Type 0 where
  pub positions : SizesFit s
  pub settings_high : settings s ≤ mode_limit
  pub commands_low : 1 ≤ c
  pub commands_high : c ≤ command_limit
  pub flags_high : length flags ≤ flag_limit

-- the sizes, each held to the limits
abbrev pub held_sizes : Sizes → Sizes
held_sizes s = record {
  first = held 1 position_limit s.first;
  second = held 1 position_limit s.second;
  third = held 1 position_limit s.third;
}

-- The graph that any dials, commands, rules and flags mean, be they within the limits or not: sizes and counts outside of the
-- limits, which the constructor refuses, are held to them.
abbrev pub held_meaning : Sizes → ℕ → List Rule → List DialFlag → Meaning
held_meaning s c rules flags =
    let t = held_sizes s in
    counted_meaning (held 1 mode_limit (settings t)) (held 1 command_limit c) (min (length flags) flag_limit) t rules flags

-- so it keeps the limits, whatever the sizes and the counts are
pub held_limits : (s : Sizes) (c : ℕ) (rules : List Rule) (flags : List DialFlag) → Limits (held_meaning s c rules flags)
held_limits s c rules flags = record {
  modes_low = omega arith;
  modes_high = omega arith;
  commands_low = omega arith;
  commands_high = omega arith;
  flags_high = omega arith;
  stands_in = λ p u e.
      let h = and_parts _ _ e in
      let k = and_parts _ _ h.1 in
      (ltb-true _ _ h.0, ltb-true _ _ k.0);
  joins_in = λ a u v e.
      let h = and_parts _ _ e in
      let k = and_parts _ _ h.1 in
      let l = and_parts _ _ k.1 in
      (ltb-true _ _ h.0, ltb-true _ _ k.0, ltb-true _ _ l.0);
}

-- sizes within the limits are held to themselves
held_sizes_same : (s : Sizes) → SizesFit s → held_sizes s ≡ s
held_sizes_same s fit =
    let e0 = held_within 1 position_limit s.first fit.first_low fit.first_high in
    let e1 = held_within 1 position_limit s.second fit.second_low fit.second_high in
    let e2 = held_within 1 position_limit s.third fit.third_low fit.third_high in
    rw (e0, e1, e2) refl

-- and so are sizes and counts, so that the graph is the one that they mean
held_same : (s : Sizes) (c : ℕ) (rules : List Rule) (flags : List DialFlag) → CountsFit s c flags → held_meaning s c rules flags ≡ dial_meaning s c rules flags
held_same s c rules flags counts =
    let fit = counts.positions in
    let some = mul-le 1 1 (s.first * s.second) s.third (mul-le 1 1 s.first s.second fit.first_low fit.second_low) fit.third_low in
    let et = held_sizes_same s fit in
    let en = held_within 1 mode_limit (settings s) some counts.settings_high in
    let ec = held_within 1 command_limit c counts.commands_low counts.commands_high in
    let ef : min (length flags) flag_limit ≡ length flags = omega (arith, counts.flags_high) in
    ap (λ (t : Sizes). counted_meaning (held 1 mode_limit (settings t)) (held 1 command_limit c) (min (length flags) flag_limit) t rules flags) et
    ∙ rw (en, ec, ef) refl

-- the graph that dials, commands, rules and flags mean keeps the limits: within the limits it is the one that is held to them
pub dial_limits : (s : Sizes) (c : ℕ) (rules : List Rule) (flags : List DialFlag) → CountsFit s c flags → Limits (dial_meaning s c rules flags)
dial_limits s c rules flags counts = subst Limits (held_same s c rules flags counts) (held_limits s c rules flags)

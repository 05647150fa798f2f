-- The graph that a table of bytes and three counts mean.
use Rattle.std.specs.Prelude.{◌≡◌, ℕ, ◌≤◌, ◌&&◌, List, nat_lt, refl}
use Rattle.std.proofs.Common.{arith}
use Rattle.std.proofs.lemmas.Bool.{and_parts, ltb-true}
use Rattle.graph.specs.Meaning.{Meaning, Limits, mode_limit, command_limit, flag_limit}
use Rattle.graph.specs.Held.{held, held_within}
use Rattle.list_graph.specs.Layout.{flag_bit, arc_bit}

-- the counts of modes, commands and flags that a graph may have
pub record CountsFit (n c f : ℕ) : Type 0 where
  pub modes_low : 1 ≤ n
  pub modes_high : n ≤ mode_limit
  pub commands_low : 1 ≤ c
  pub commands_high : c ≤ command_limit
  pub flags_high : f ≤ flag_limit

-- The graph of n modes, c commands and f flags that the bytes mean: a flag stands, and a command joins, where its bit is set.
-- Bits beyond the counts mean nothing.
abbrev pub list_meaning : List ℕ → ℕ → ℕ → ℕ → Meaning
list_meaning bytes n c f = record {
  modes = n;
  commands = c;
  flags = f;
  stands = λ p u. nat_lt p f && (nat_lt u n && flag_bit bytes p u);
  joins = λ a u v. nat_lt a c && (nat_lt u n && (nat_lt v n && arc_bit bytes a u v));
}

-- the graph that bytes and counts mean keeps the limits
pub list_limits : (bytes : List ℕ) (n c f : ℕ) → CountsFit n c f → Limits (list_meaning bytes n c f)
list_limits bytes n c f counts = record {
  modes_low = counts.modes_low;
  modes_high = counts.modes_high;
  commands_low = counts.commands_low;
  commands_high = counts.commands_high;
  flags_high = counts.flags_high;
  stands_in = λ p u e.
      let h = and_parts _ _ e in
      let k = and_parts _ _ h.1 in
      (ltb-true _ _ h.0, ltb-true _ _ k.0);
  joins_in = λ a u v e.
      let h = and_parts _ _ e in
      let k = and_parts _ _ h.1 in
      let l = and_parts _ _ k.1 in
      (ltb-true _ _ h.0, ltb-true _ _ k.0, ltb-true _ _ l.0);
}

-- The graph that bytes and any counts mean, be they within the limits or not: counts outside of the limits, which the constructor
-- refuses, are held to them.
abbrev pub held_meaning : List ℕ → ℕ → ℕ → ℕ → Meaning
held_meaning bytes n c f = list_meaning bytes (held 1 mode_limit n) (held 1 command_limit c) (held 0 flag_limit f)

-- so it keeps the limits, whatever the counts are
pub held_limits : (bytes : List ℕ) (n c f : ℕ) → Limits (held_meaning bytes n c f)
held_limits bytes n c f =
    list_limits bytes (held 1 mode_limit n) (held 1 command_limit c) (held 0 flag_limit f) (record {
      modes_low = omega arith;
      modes_high = omega arith;
      commands_low = omega arith;
      commands_high = omega arith;
      flags_high = omega arith;
    })

-- counts within the limits are held to themselves, so that the graph is the one that bytes and counts mean
pub held_same : (bytes : List ℕ) (n c f : ℕ) → CountsFit n c f → held_meaning bytes n c f ≡ list_meaning bytes n c f
held_same bytes n c f counts =
    let en = held_within 1 mode_limit n counts.modes_low counts.modes_high in
    let ec = held_within 1 command_limit c counts.commands_low counts.commands_high in
    let ef = held_within 0 flag_limit f (omega arith) counts.flags_high in
    rw (en, ec, ef) refl

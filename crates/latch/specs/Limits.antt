-- A graph with a latch keeps the limits.
use Rattle.std.specs.Prelude.{◌≡◌, ℕ, ◌+◌, ◌-◌, ◌*◌, ◌<◌, ◌≤◌, Bool, true, false, cond, ◌==◌, nat_lt, refl}
use Rattle.std.proofs.Common.{⊎_elim, arith, subst}
use Rattle.std.proofs.lemmas.Bool.{and_parts, ltb-true, leb-true, eqb-true, cases_Bool, le-leb, lt-ltb}
use Rattle.graph.specs.Meaning.{Meaning, Limits, mode_limit, flag_limit}
use Rattle.latch.specs.Latched.{below, is_set, latched, has_room, latch_meaning}

-- a mode whose mode below is one of n is one of 2 × n
below_in : (n w : ℕ) (b : Bool) → nat_lt w n ≡ b → cond b w (w - n) < n → w < 2 * n
below_in n w true e h = omega arith
below_in n w false e h = omega arith

module _ (one_shot : ℕ) (m : Meaning) (l : Limits m) where
  set_in : (p w : ℕ) → (latched one_shot m).stands p w ≡ true → (p < m.flags + 1) × (w < 2 * m.modes)
  set_in p w e =
      ⊎_elim
      (λ t.
      let h = rw t at e in
      let q = eqb-true p m.flags t in
      (omega arith, ltb-true w (2 * m.modes) (and_parts (is_set m.modes w) (nat_lt w (2 * m.modes)) h).1))
      (λ t.
      let h = rw t at e in
      let k = l.stands_in p (below m.modes w) h in
      (omega (arith, k.0), below_in m.modes w (nat_lt w m.modes) refl k.1))
      (cases_Bool (p == m.flags))

  roomy_limits : 2 * m.modes ≤ mode_limit → m.flags < flag_limit → Limits (latched one_shot m)
  roomy_limits modes flags = record {
    modes_low = omega (arith, l.modes_low);
    modes_high = modes;
    commands_low = l.commands_low;
    commands_high = l.commands_high;
    flags_high = omega arith;
    stands_in = set_in;
    joins_in = λ a w x e.
        let j = l.joins_in a (below m.modes w) (below m.modes x) (and_parts _ _ e).0 in
        (j.0, below_in m.modes w (nat_lt w m.modes) refl j.1, below_in m.modes x (nat_lt x m.modes) refl j.2);
  }

  by_room : (b : Bool) → has_room m ≡ b → Limits (cond b (latched one_shot m) m)
  by_room true e = let h = and_parts _ _ e in roomy_limits (leb-true _ _ h.0) (ltb-true _ _ h.1)
  by_room false e = l

-- a latch over any graph keeps the limits, be there room for it or not
pub latch_limits : (one_shot : ℕ) (m : Meaning) → Limits m → Limits (latch_meaning one_shot m)
latch_limits one_shot m l = by_room one_shot m l (has_room m) refl

-- where there is room for twice the modes and for one more flag, that is the graph with the latch
pub latched_limits : (one_shot : ℕ) (m : Meaning) → Limits m → 2 * m.modes ≤ mode_limit → m.flags + 1 ≤ flag_limit → Limits (latched one_shot m)
latched_limits one_shot m l modes flags =
    let e : has_room m ≡ true = rw (le-leb _ _ modes, lt-ltb m.flags flag_limit (omega arith)) refl in
    subst (λ (b : Bool). Limits (cond b (latched one_shot m) m)) e (latch_limits one_shot m l)

-- Each worked case, by computing.
use Rattle.std.proofs.Common.{◌≡◌, ℕ, ◌<◌, Bool, true, false, not, List, Decides, sym, refl, subst, arith}
use Rattle.std.proofs.lemmas.Bool.Decides.{nat_tests}
use Rattle.graph.specs.Meaning.{Meaning, Limits}
use Rattle.logic.specs.Trees.{Formula, Program}
use Rattle.logic.specs.Truth.{TrueAt, Leads}
use Rattle.worked_cases.specs.Models.{model_s, model_t}
use Rattle.worked_cases.specs.Cases.{WorkedCases, listed, pair_listed, Pair, TrueExactly, LeadsExactly}
use Rattle.worked_cases.proofs.Computing.{every_below, decides_every, holds, goes, holds_decides, goes_decides}

-- model S keeps the limits
limits_s : Limits model_s
limits_s = record {
  modes_low = omega arith;
  modes_high = omega arith;
  commands_low = omega arith;
  commands_high = omega arith;
  flags_high = omega arith;
  stands_in = λ p u e. grind (arith, nat_tests);
  joins_in = λ a u v e. grind (arith, nat_tests);
}

-- model T keeps the limits
limits_t : Limits model_t
limits_t = record {
  modes_low = omega arith;
  modes_high = omega arith;
  commands_low = omega arith;
  commands_high = omega arith;
  flags_high = omega arith;
  stands_in = λ p u e. grind (arith, nat_tests);
  joins_in = λ a u v e. grind (arith, nat_tests);
}

-- two answers are the same
abbrev alike : Bool → Bool → Bool
alike true c = c
alike false c = not c

-- it decides whether they are equal
alike_decides : (b c : Bool) → Decides (alike b c) (b ≡ c)
alike_decides true true = (λ e. refl, λ e. refl)
alike_decides true false = (λ e. sym e, λ e. sym e)
alike_decides false true = (λ e. e, λ e. e)
alike_decides false false = (λ e. refl, λ e. refl)

-- the test of a formula passes at exactly the modes of a list
abbrev holds_listed : Meaning → Formula → List ℕ → Bool
holds_listed m x us = every_below (λ u. alike (holds m x u) (listed us u)) m.modes

-- the test of a program passes for exactly the pairs of a list
abbrev goes_listed : Meaning → Program → List Pair → Bool
goes_listed m r ps = every_below (λ u. every_below (λ v. alike (goes m r u v) (pair_listed ps u v)) m.modes) m.modes

-- where the test of a formula passes at exactly the modes of a list, it answers for each mode whether it is listed
holds_same : (m : Meaning) (x : Formula) (us : List ℕ) → holds_listed m x us ≡ true
    → (u : ℕ) → u < m.modes → holds m x u ≡ listed us u
holds_same m x us e =
    (decides_every (λ u. holds m x u ≡ listed us u) (λ u. alike (holds m x u) (listed us u)) m.modes
    (λ u h. alike_decides (holds m x u) (listed us u))).0 e

-- the same for a program with one of its ends given
goes_same_from : (m : Meaning) (r : Program) (ps : List Pair) (u : ℕ)
    → Decides (every_below (λ v. alike (goes m r u v) (pair_listed ps u v)) m.modes) ((v : ℕ) → v < m.modes → goes m r u v ≡ pair_listed ps u v)
goes_same_from m r ps u =
    decides_every (λ v. goes m r u v ≡ pair_listed ps u v) (λ v. alike (goes m r u v) (pair_listed ps u v)) m.modes
    (λ v i. alike_decides (goes m r u v) (pair_listed ps u v))

-- the same for a program
goes_same : (m : Meaning) (r : Program) (ps : List Pair) → goes_listed m r ps ≡ true
    → (u : ℕ) → u < m.modes → (v : ℕ) → v < m.modes → goes m r u v ≡ pair_listed ps u v
goes_same m r ps e =
    (decides_every (λ u. (v : ℕ) → v < m.modes → goes m r u v ≡ pair_listed ps u v)
    (λ u. every_below (λ v. alike (goes m r u v) (pair_listed ps u v)) m.modes) m.modes
    (λ u h. goes_same_from m r ps u)).0 e

module _ (m : Meaning) (l : Limits m) where
  -- where the test of a formula passes at exactly the modes of a list, the formula is true at exactly these
  true_by_test : (x : Formula) (us : List ℕ) → holds_listed m x us ≡ true → TrueExactly m x us
  unfolding TrueExactly
  true_by_test x us e u h = subst (λ (b : Bool). Decides b (TrueAt m x u)) (holds_same m x us e u h) (holds_decides m l x u h)

  -- where the test of a program passes for exactly the pairs of a list, the program leads for exactly these
  leads_by_test : (r : Program) (ps : List Pair) → goes_listed m r ps ≡ true → LeadsExactly m r ps
  unfolding LeadsExactly
  leads_by_test r ps e u v h i = subst (λ (b : Bool). Decides b (Leads m r u v)) (goes_same m r ps e u h v i) (goes_decides m l r u v h i)

-- every case: those of graphs by the laws of tests, and those of truth by the tests of formulas and programs
pub worked_cases : WorkedCases
worked_cases = record {
  latch_fires = λ v. grind (arith, nat_tests);
  latch_spent = λ v. grind (arith, nat_tests);
  dial_steps = λ v. grind (arith, nat_tests);
  dial_stops = λ v. grind (arith, nat_tests);
  dial_guards = λ v. grind (arith, nat_tests);
  diamond_back = true_by_test model_s limits_s _ _ refl;
  box_nowhere = true_by_test model_s limits_s _ _ refl;
  diamond_repeated = true_by_test model_s limits_s _ _ refl;
  no_steps = leads_by_test model_s limits_s _ _ refl;
  one_then_other = leads_by_test model_t limits_t _ _ refl;
  repeated = leads_by_test model_t limits_t _ _ refl;
  backwards = leads_by_test model_t limits_t _ _ refl;
}

-- The worked cases, as one statement about the definitions.
use Rattle.std.specs.Prelude.{◌≡◌, ℕ, ◌<◌, Bool, false, ◌&&◌, List, [], ◌∷◌, negsuc, Decides, ◌==◌}
use Rattle.std.specs.List.{list_any}
use Rattle.graph.specs.Meaning.{Meaning}
use Rattle.dial_graph.specs.Dials.{dial_meaning, sizes_of}
use Rattle.dial_graph.specs.declared.rules.Rule.{Rule}
use Rattle.latch.specs.Latched.{latched}
use Rattle.logic.specs.Trees.{Formula, Program, never, flag, box, diamond, command, sequence, repetition, converse, test}
use Rattle.logic.specs.Truth.{TrueAt, Leads}
use Rattle.worked_cases.specs.Models.{model_s, model_t}

-- dials of 4 and 2 positions with one rule: command 0 moves dial 0 down by 1 where dial 1 is at position 1
abbrev pub step_down : Rule
step_down = record { command = 0; guard = 1; low = 1; high = 1; moved = 0; step = negsuc 0 }

-- the graph of these two dials, with one command and no flags
abbrev pub two_dials : Meaning
two_dials = dial_meaning (sizes_of (4 ∷ (2 ∷ []))) 1 (step_down ∷ []) []

-- u is one of these numbers
abbrev pub listed : List ℕ → ℕ → Bool
listed us u = list_any (λ x. x == u) us

-- a mode from which a program leads, and one to which it leads from there
pub record Pair : Type 0 where
  pub from : ℕ
  pub to : ℕ

-- u and v, in this order, are one of these pairs
abbrev pub pair_listed : List Pair → ℕ → ℕ → Bool
pair_listed ps u v = list_any (λ x. x.from == u && x.to == v) ps

-- among the modes, the formula is true at exactly these
unfoldable pub TrueExactly : Meaning → Formula → List ℕ → Type 0
TrueExactly m x us = (u : ℕ) → u < m.modes → Decides (listed us u) (TrueAt m x u)

-- among the modes, the program leads from one to another for exactly these pairs
unfoldable pub LeadsExactly : Meaning → Program → List Pair → Type 0
LeadsExactly m r ps = (u v : ℕ) → u < m.modes → v < m.modes → Decides (pair_listed ps u v) (Leads m r u v)

-- the pair of u and v
abbrev pair : ℕ → ℕ → Pair
pair u v = record { from = u; to = v }

-- facts about model S, about model T and about the two dials
pub record WorkedCases : Type 0 where
  -- model S with a latch on command 1: from mode 0 the command leads to mode 5 alone, and from mode 3 nowhere
  pub latch_fires : (v : ℕ) → (latched 1 model_s).joins 1 0 v ≡ (v == 5)
  pub latch_spent : (v : ℕ) → (latched 1 model_s).joins 1 3 v ≡ false
  -- two dials: from mode 6 the command leads to mode 5 alone; from mode 4 its step is off the dial; at mode 2 its guard fails
  pub dial_steps : (v : ℕ) → two_dials.joins 0 6 v ≡ (v == 5)
  pub dial_stops : (v : ℕ) → two_dials.joins 0 4 v ≡ false
  pub dial_guards : (v : ℕ) → two_dials.joins 0 2 v ≡ false
  -- model S: where command 0 backwards and then command 1 can lead to a mode at which flag 1 stands
  pub diamond_back : TrueExactly model_s (diamond (sequence (converse (command 0)) (command 1)) (flag 1)) (0 ∷ (1 ∷ []))
  -- model S: where command 0 leads only to modes at which flag 0 stands; at 1 and 2 it leads nowhere
  pub box_nowhere : TrueExactly model_s (box (command 0) (flag 0)) (1 ∷ (2 ∷ []))
  -- model S: where some number of steps by command 1, none among them, can lead to a mode at which flag 0 stands
  pub diamond_repeated : TrueExactly model_s (diamond (repetition (command 1)) (flag 0)) (0 ∷ (2 ∷ []))
  -- model S: a test that always fails, repeated, leads from each mode to itself, by no steps
  pub no_steps : LeadsExactly model_s (repetition (test never)) (pair 0 0 ∷ (pair 1 1 ∷ (pair 2 2 ∷ [])))
  -- model T: command 0 and then command 1
  pub one_then_other : LeadsExactly model_t (sequence (command 0) (command 1)) (pair 0 2 ∷ (pair 0 3 ∷ (pair 1 2 ∷ [])))
  -- model T: some number of steps by command 1
  pub repeated : LeadsExactly model_t (repetition (command 1))
      (pair 0 0 ∷ (pair 0 2 ∷ (pair 0 3 ∷ (pair 1 1 ∷ (pair 1 2 ∷ (pair 2 2 ∷ (pair 3 2 ∷ (pair 3 3 ∷ []))))))))
  -- model T: command 1 backwards
  pub backwards : LeadsExactly model_t (converse (command 1)) (pair 2 1 ∷ (pair 2 3 ∷ (pair 3 0 ∷ [])))

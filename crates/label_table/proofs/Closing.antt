-- A block is closed under walks once all modes are let in between.
use Rattle.std.proofs.Common.{ℕ, List}
use Rattle.logic.proofs.Walks.{via_steps, steps_via}
use Rattle.label_table.specs.Entries.{Step}
use Rattle.label_table.specs.Changes.{Covered, Closed}

-- with all n modes let in, every walk is covered
pub covered_all : (n q : ℕ) (old new : List ℕ) → Covered n q n old new → Closed n q old new
covered_all n q old new c = record {
  sound = λ u v hu hv i. via_steps (Step n old q) n u v (c.sound u v hu hv i);
  full = λ u v hu hv w. c.full u v hu hv (steps_via (Step n old q) n (λ x y h s. s.1) u v hu w);
  others = c.others;
  only = c.only;
}

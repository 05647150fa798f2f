-- What the constructor of a list graph makes, and on which ground it refuses.
use Rattle.std.specs.Prelude.{◌≡◌, ℕ, ◌<◌, ◌≤◌, ◌⊎◌, List, length, Ok, Err, Result}
use Rattle.std.proofs.Common.{subst}
use Rattle.graph.specs.Meaning.{Meaning, Limits}
use Rattle.graph.specs.Refusals.{refusal_number}
use Rattle.graph.specs.declared.refusal.Refusal.{Refusal}
use Rattle.list_graph.specs.Layout.{table_bytes}
use Rattle.list_graph.specs.Lists.{CountsFit, list_meaning, held_limits, held_same}
use Rattle.list_graph.specs.declared.list.ListGraph.{ListGraph}

-- what a list graph means
abbrev pub meaning_of : ListGraph → Meaning
meaning_of g = list_meaning g.bytes.now g.modes g.commands g.flags

-- every list graph keeps the limits: its counts are within them, so that it is what its bytes and counts mean held to the limits
pub limits_of : (g : ListGraph) → Limits (meaning_of g)
limits_of g = subst Limits (held_same g.bytes.now g.modes g.commands g.flags g.counts) (held_limits g.bytes.now g.modes g.commands g.flags)

-- the bytes are a whole table, the counts are within the limits, and the graph means what the bytes and the counts mean
pub record Accepted (bytes : List ℕ) (n c f : ℕ) (g : ListGraph) : Type 0 where
  pub whole : table_bytes ≤ length bytes
  pub counts : CountsFit n c f
  pub means : meaning_of g ≡ list_meaning bytes n c f

-- the ground of a refusal by its number: 9 where the bytes are no whole table; 16 where they are, and the counts are not within
-- the limits
abbrev pub Ground : List ℕ → ℕ → ℕ → ℕ → ℕ → Type 0
Ground bytes n c f number = ((number ≡ 9) × (length bytes < table_bytes)) ⊎ ((number ≡ 16) × (table_bytes ≤ length bytes) × (CountsFit n c f → ⊥))

-- what is made of the bytes and the three counts
abbrev pub Made : List ℕ → ℕ → ℕ → ℕ → Result ListGraph Refusal → Type 0
Made bytes n c f (Ok g) = Accepted bytes n c f g
Made bytes n c f (Err e) = Ground bytes n c f (refusal_number e)

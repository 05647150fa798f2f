-- When a sheet fits a graph: its rows are in order, and all that its rows and its claims name is there.
use Rattle.std.specs.Prelude.{◌≡◌, ℕ, ◌<◌, true, List, length, slice_index_or}
use Rattle.std.specs.List.{AllByRecursion}
use Rattle.graph.specs.Meaning.{Meaning}
use Rattle.logic.specs.Rows.{is_formula, Orderly}
use Rattle.logic.specs.declared.row.Claim.{Claim}
use Rattle.logic.specs.declared.row.Row.{Row}
use Rattle.logic.specs.declared.row.Row.TheVariants.{Never, Flag, Not, Both, Either, Implies, Box, Diamond, Command, Sequence, Choice, Repetition, Converse, Test}
use Rattle.logic.specs.declared.row.Scope.{Scope}
use Rattle.logic.specs.declared.row.Scope.TheVariants as scope

-- the flag or the command that the row names is one of the graph's; a row of another kind names nothing of the graph
abbrev pub NamedThere : Meaning → Row → Type 0
NamedThere m Never = Unit {0}
NamedThere m (Flag p) = p < m.flags
NamedThere m (Not j) = Unit {0}
NamedThere m (Both j k) = Unit {0}
NamedThere m (Either j k) = Unit {0}
NamedThere m (Implies j k) = Unit {0}
NamedThere m (Box j k) = Unit {0}
NamedThere m (Diamond j k) = Unit {0}
NamedThere m (Command a) = a < m.commands
NamedThere m (Sequence j k) = Unit {0}
NamedThere m (Choice j k) = Unit {0}
NamedThere m (Repetition j) = Unit {0}
NamedThere m (Converse j) = Unit {0}
NamedThere m (Test j) = Unit {0}

-- where one mode is named, it is one of the graph's
abbrev pub ScopeThere : Meaning → Scope → Type 0
ScopeThere m scope.All = Unit {0}
ScopeThere m (scope.Mode u) = u < m.modes

-- the claim's row is one of the rows, and is a formula, and the modes that the claim names are the graph's
pub record ClaimThere (m : Meaning) (rows : List Row) (c : Claim) : Type 0 where
  pub in_list : c.row < length rows
  pub formula : is_formula (slice_index_or rows c.row Never) ≡ true
  pub scope : ScopeThere m c.scope

-- The parts of each row are rows before it, each of the right sort; and every flag, command and mode that is named is one of
-- the graph's, and every claim is of a formula among the rows. So each claim has a meaning at the graph.
pub record Fits (m : Meaning) (rows : List Row) (claims : List Claim) : Type 0 where
  pub orderly : Orderly rows
  pub named : (i : ℕ) → i < length rows → NamedThere m (slice_index_or rows i Never)
  pub claimed : AllByRecursion (ClaimThere m rows) claims

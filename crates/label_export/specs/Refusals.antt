-- The number by which each ground of a refusal is known to callers.
use Rattle.std.specs.Prelude.{ℕ}
use Rattle.graph.specs.Refusals as graph
use Rattle.labeller.specs.Refusals as labeller
use Rattle.label_export.specs.declared.refused.Refused.{Refused}
use Rattle.label_export.specs.declared.refused.Refused.TheVariants.{NotRows, NoMemory, Graph, Labelling}

-- the bytes mean no rows for a sheet: 1; there is no memory for a sheet: 2; else the number under which the graph or the labelling
-- is refused
abbrev pub refused_number : Refused → ℕ
refused_number NotRows = 1
refused_number NoMemory = 2
refused_number (Graph refusal) = graph.refusal_number refusal
refused_number (Labelling refusal) = labeller.refusal_number refusal

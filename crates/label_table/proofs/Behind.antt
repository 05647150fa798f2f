-- What lies behind a label table has no part in it.
use Rattle.std.proofs.Common.{◌≡◌, ℕ, ◌+◌, ◌*◌, ◌/◌, ◌%◌, ◌<◌, ◌≤◌, List, ◌++◌, length, get_or, ◌∙◌, arith, length-append}
use Rattle.std.proofs.lemmas.List.{get_or_append_left}
use Rattle.std.proofs.lemmas.Bool.Decides.{Decides-at}
use Rattle.sets.specs.Sets.{bit}
use Rattle.sets.proofs.Bits.{bit_same_byte}
use Rattle.graph.specs.Meaning.{Meaning}
use Rattle.logic.specs.declared.row.Row.{Row}
use Rattle.label_table.specs.Layout.{table_bytes, mode_bit, pair_bit}
use Rattle.label_table.specs.Labels.{LabelTable}

-- a label table is one with more bytes behind it
pub table_behind : (m : Meaning) → m.modes ≤ 64 → (rows : List Row) → length rows ≤ 48 → (table rest : List ℕ) → length table ≡ table_bytes → LabelTable m rows table → LabelTable m rows (table ++ rest)
table_behind m few rows short table rest long l = record {
  whole = let e = length-append table rest in omega arith;
  are_bytes = λ i h. let e = front i h in omega (arith, l.are_bytes i h);
  modes = λ r u at hu.
      let low = at.0 in
      Decides-at (mode_bit (table ++ rest) r u) (mode_bit table r u) (same (512 * r + u / 8) (u % 8) (omega arith)) (l.modes r u at hu);
  pairs = λ r u v at hu hv.
      let low = at.0 in
      Decides-at (pair_bit (table ++ rest) r u v) (pair_bit table r u v) (same (512 * r + 8 * u + v / 8) (v % 8) (omega arith)) (l.pairs r u v at hu hv);
  others = λ i k hi hk none. same i k hi ∙ l.others i k hi hk none;
}
  where
    front : (i : ℕ) → i < table_bytes → get_or (table ++ rest) i 0 ≡ get_or table i 0
    front i h = get_or_append_left table rest 0 i (omega arith)

    same : (i k : ℕ) → i < table_bytes → bit (table ++ rest) i k ≡ bit table i k
    same i k h = bit_same_byte (table ++ rest) table i k (front i h)

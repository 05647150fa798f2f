-- What setting a flag or an arc of a table changes, and what it leaves.
use Rattle.std.proofs.Common.{◌≡◌, ℕ, ◌%◌, ◌<◌, ◌≤◌, Bool, ◌&&◌, ◌||◌, eqb, List, length, drop, ap, ◌∙◌, arith}
use Rattle.std.proofs.lemmas.Bool.Decides.{nat_tests}
use Rattle.graph.specs.Meaning.{mode_limit, command_limit, flag_limit}
use Rattle.sets.proofs.Bits.{bit_with_bit, bit_other, length_with_bit, drop_with_bit}
use Rattle.list_graph.specs.Layout.{table_bytes, flag_byte, arc_byte, flag_bit, arc_bit, marked, joined}

-- two flags have the same bit only where they are the same flag at the same mode
same_flag : (p u q w : ℕ) → u < mode_limit → w < mode_limit → (eqb (flag_byte p u) (flag_byte q w) && eqb (u % 8) (w % 8)) ≡ (eqb p q && eqb u w)
same_flag p u q w hu hw = grind (arith, nat_tests)

-- two arcs have the same bit only where they are of the same command, from the same mode, to the same mode
same_arc : (a u v b w x : ℕ) → u < mode_limit → v < mode_limit → w < mode_limit → x < mode_limit → (eqb (arc_byte a u v) (arc_byte b w x) && eqb (v % 8) (x % 8)) ≡ (eqb a b && (eqb u w && eqb v x))
same_arc a u v b w x hu hv hw hx = grind (arith, nat_tests)

-- each flag after a flag was set
pub flag_bit_marked : (bs : List ℕ) (p u q w : ℕ) → table_bytes ≤ length bs → p < flag_limit → u < mode_limit → w < mode_limit → flag_bit (marked bs p u) q w ≡ (flag_bit bs q w || (eqb p q && eqb u w))
flag_bit_marked bs p u q w hb hp hu hw =
    bit_with_bit bs (flag_byte p u) (u % 8) (flag_byte q w) (w % 8) (omega arith)
    ∙ ap (λ (t : Bool). flag_bit bs q w || t) (same_flag p u q w hu hw)

-- no arc changes where a flag is set
pub arc_bit_marked : (bs : List ℕ) (p u a v w : ℕ) → p < flag_limit → u < mode_limit → arc_bit (marked bs p u) a v w ≡ arc_bit bs a v w
arc_bit_marked bs p u a v w hp hu = bit_other bs (flag_byte p u) (u % 8) (arc_byte a v w) (w % 8) (λ e. omega arith)

-- no flag changes where an arc is set
pub flag_bit_joined : (bs : List ℕ) (a u v q w : ℕ) → q < flag_limit → w < mode_limit → flag_bit (joined bs a u v) q w ≡ flag_bit bs q w
flag_bit_joined bs a u v q w hq hw = bit_other bs (arc_byte a u v) (v % 8) (flag_byte q w) (w % 8) (λ e. omega arith)

-- each arc after an arc was set
pub arc_bit_joined : (bs : List ℕ) (a u v b w x : ℕ) → table_bytes ≤ length bs → a < command_limit → u < mode_limit → v < mode_limit → w < mode_limit → x < mode_limit → arc_bit (joined bs a u v) b w x ≡ (arc_bit bs b w x || (eqb a b && (eqb u w && eqb v x)))
arc_bit_joined bs a u v b w x hb ha hu hv hw hx =
    bit_with_bit bs (arc_byte a u v) (v % 8) (arc_byte b w x) (x % 8) (omega arith)
    ∙ ap (λ (t : Bool). arc_bit bs b w x || t) (same_arc a u v b w x hu hv hw hx)

-- setting a flag or an arc leaves the length
pub length_marked : (bs : List ℕ) (p u : ℕ) → length (marked bs p u) ≡ length bs
length_marked bs p u = length_with_bit bs (flag_byte p u) (u % 8)

pub length_joined : (bs : List ℕ) (a u v : ℕ) → length (joined bs a u v) ≡ length bs
length_joined bs a u v = length_with_bit bs (arc_byte a u v) (v % 8)

-- what lies behind the table stays where a flag is set
pub drop_marked : (bs : List ℕ) (p u : ℕ) → p < flag_limit → u < mode_limit → drop table_bytes (marked bs p u) ≡ drop table_bytes bs
drop_marked bs p u hp hu = drop_with_bit table_bytes bs (flag_byte p u) (u % 8) (omega arith)

-- what lies behind the table stays where an arc is set
pub drop_joined : (bs : List ℕ) (a u v : ℕ) → a < command_limit → u < mode_limit → v < mode_limit → drop table_bytes (joined bs a u v) ≡ drop table_bytes bs
drop_joined bs a u v ha hu hv = drop_with_bit table_bytes bs (arc_byte a u v) (v % 8) (omega arith)

-- The bytes of a table say exactly the entries that were set in them.
use Rattle.std.proofs.Common.{◌≡◌, ℕ, ◌%◌, ◌<◌, ◌≤◌, Bool, true, false, ◌&&◌, eqb, ◌⊎◌, List, [], ◌∷◌, ◌++◌, length, Decides, sym, refl, ◌∙◌, inl, inr, ⊎_elim, arith}
use mathlib.Core.Bool.{false≢true}
use lib.ListN.{length-replicate}
use Rattle.std.proofs.lemmas.List.{get_or_append_left, get_or-replicate}
use Rattle.std.proofs.lemmas.Bool.{or_cases, or_left, or_right, and_parts, and_from, eqb-true, eq-eqb}
use Rattle.sets.specs.Sets.{bit}
use Rattle.sets.proofs.Bits.{bit_zero, bit_same_byte}
use Rattle.list_graph.specs.Layout.{flag_bit, arc_bit, flag_byte, arc_byte}
use Rattle.list_graph.proofs.Bits.{flag_bit_marked, arc_bit_marked, flag_bit_joined, arc_bit_joined, length_marked, length_joined}
use Rattle.list_graph.specs.Lists.{CountsFit}
use Rattle.std.specs.List.{AllByRecursion}
use Rattle.table.specs.declared.contents.Counts.{Counts}
use Rattle.table.specs.declared.contents.Entry.{Entry}
use Rattle.table.specs.declared.contents.Entry.TheVariants.{Mark, Arc}
use Rattle.table.specs.Table.{blank, with_entry, with_entries}
use Rattle.table.specs.Grammar.{EntryFits, Listed, Says}

pub length_with_entry : (e : Entry) (bytes : List ℕ) → length (with_entry e bytes) ≡ length bytes
length_with_entry (Mark p u) bytes = length_marked bytes p u
length_with_entry (Arc a u v) bytes = length_joined bytes a u v

pub length_with_entries : (es : List Entry) (bytes : List ℕ) → length (with_entries es bytes) ≡ length bytes
length_with_entries [] bytes = refl
length_with_entries (e ∷ es) bytes = length_with_entries es (with_entry e bytes) ∙ length_with_entry e bytes

-- a test that is set where it was or where a fact holds
Sets : Bool → Bool → Type 0 → Type 0
Sets after before fact = Decides after ((before ≡ true) ⊎ fact)

mark_not_arc : {p u a v w : ℕ} → Mark p u ≡ Arc a v w → ⊥
mark_not_arc h = let z : ◌≡◌ {A = ℕ} 0 1 = cc in omega arith

-- the bit of a mark, after one entry was set
mark_set : (c : Counts) → CountsFit c.modes c.commands c.flags → (e : Entry) → EntryFits c e → (bytes : List ℕ) → 8320 ≤ length bytes → (p u : ℕ) → p < 16 → u < 64 → Sets (flag_bit (with_entry e bytes) p u) (flag_bit bytes p u) (e ≡ Mark p u)
unfolding Sets
mark_set c few (Mark q w) (fq, fw) bytes long p u hp hu =
    let is = flag_bit_marked bytes q w p u long (omega (arith, few.flags_high)) (omega (arith, few.modes_high)) hu in (
      λ t. ⊎_elim inl (λ s. let h = and_parts (eqb q p) (eqb w u) s in let x = eqb-true q p h.0 in let y = eqb-true w u h.1 in inr (cc)) (or_cases (flag_bit bytes p u) (eqb q p && eqb w u) (sym is ∙ t)),
      ⊎_elim (λ t. is ∙ or_left (flag_bit bytes p u) (eqb q p && eqb w u) t) (λ s. let x : q ≡ p = cc in let y : w ≡ u = cc in is ∙ or_right (flag_bit bytes p u) (eqb q p && eqb w u) (and_from (eqb q p) (eqb w u) (eq-eqb q p x) (eq-eqb w u y))),
    )
mark_set c few (Arc a v w) fits bytes long p u hp hu =
    let is = flag_bit_joined bytes a v w p u hp hu in
    (λ t. inl (sym is ∙ t), ⊎_elim (λ t. is ∙ t) (λ s. absurd (mark_not_arc (sym s))))

-- the bit of an arc, after one entry was set
arc_set : (c : Counts) → CountsFit c.modes c.commands c.flags → (e : Entry) → EntryFits c e → (bytes : List ℕ) → 8320 ≤ length bytes → (a u v : ℕ) → u < 64 → v < 64 → Sets (arc_bit (with_entry e bytes) a u v) (arc_bit bytes a u v) (e ≡ Arc a u v)
unfolding Sets
arc_set c few (Mark q w) (fq, fw) bytes long a u v hu hv =
    let is = arc_bit_marked bytes q w a u v (omega (arith, few.flags_high)) (omega (arith, few.modes_high)) in
    (λ t. inl (sym is ∙ t), ⊎_elim (λ t. is ∙ t) (λ s. absurd (mark_not_arc s)))
arc_set c few (Arc b w x) (fb, fw, fx) bytes long a u v hu hv =
    let is = arc_bit_joined bytes b w x a u v long (omega (arith, few.commands_high)) (omega (arith, few.modes_high)) (omega (arith, few.modes_high)) hu hv in
    let same = eqb b a && (eqb w u && eqb x v) in (
      λ t. ⊎_elim inl
          (λ s.
          let h = and_parts (eqb b a) (eqb w u && eqb x v) s in
          let k = and_parts (eqb w u) (eqb x v) h.1 in
          let i = eqb-true b a h.0 in
          let j = eqb-true w u k.0 in
          let l = eqb-true x v k.1 in
          inr (cc))
          (or_cases (arc_bit bytes a u v) same (sym is ∙ t)),
      ⊎_elim (λ t. is ∙ or_left (arc_bit bytes a u v) same t)
          (λ s.
          let i : b ≡ a = cc in
          let j : w ≡ u = cc in
          let l : x ≡ v = cc in
          is ∙ or_right (arc_bit bytes a u v) same (and_from (eqb b a) (eqb w u && eqb x v) (eq-eqb b a i) (and_from (eqb w u) (eqb x v) (eq-eqb w u j) (eq-eqb x v l)))),
    )

-- one entry, and then others
sets_more : (after middle before : Bool) (P Q : Type 0) → Sets middle before P → Sets after middle Q → Sets after before (P ⊎ Q)
unfolding Sets
sets_more after middle before P Q first then_others = (
  λ t. ⊎_elim (λ m. ⊎_elim inl (λ p. inr (inl p)) (first.0 m)) (λ q. inr (inr q)) (then_others.0 t),
  ⊎_elim (λ b. then_others.1 (inl (first.1 (inl b)))) (⊎_elim (λ p. then_others.1 (inl (first.1 (inr p)))) (λ q. then_others.1 (inr q))),
)

sets_none : (b : Bool) → Sets b b ⊥
unfolding Sets
sets_none b = (inl, ⊎_elim (λ t. t) (λ n. absurd n))

module _ (c : Counts) (few : CountsFit c.modes c.commands c.flags) where
  marks_set : (es : List Entry) → AllByRecursion (EntryFits c) es → (bytes : List ℕ) → 8320 ≤ length bytes → (p u : ℕ) → p < 16 → u < 64 → Sets (flag_bit (with_entries es bytes) p u) (flag_bit bytes p u) (Listed (Mark p u) es)
  marks_set [] fits bytes long p u hp hu = sets_none (flag_bit bytes p u)
  marks_set (e ∷ es) fits bytes long p u hp hu =
      sets_more (flag_bit (with_entries es (with_entry e bytes)) p u) (flag_bit (with_entry e bytes) p u) (flag_bit bytes p u) (e ≡ Mark p u) (Listed (Mark p u) es)
      (mark_set c few e fits.0 bytes long p u hp hu)
      (marks_set es fits.1 (with_entry e bytes) (omega (arith, length_with_entry e bytes)) p u hp hu)

  arcs_set : (es : List Entry) → AllByRecursion (EntryFits c) es → (bytes : List ℕ) → 8320 ≤ length bytes → (a u v : ℕ) → u < 64 → v < 64 → Sets (arc_bit (with_entries es bytes) a u v) (arc_bit bytes a u v) (Listed (Arc a u v) es)
  arcs_set [] fits bytes long a u v hu hv = sets_none (arc_bit bytes a u v)
  arcs_set (e ∷ es) fits bytes long a u v hu hv =
      sets_more (arc_bit (with_entries es (with_entry e bytes)) a u v) (arc_bit (with_entry e bytes) a u v) (arc_bit bytes a u v) (e ≡ Arc a u v) (Listed (Arc a u v) es)
      (arc_set c few e fits.0 bytes long a u v hu hv)
      (arcs_set es fits.1 (with_entry e bytes) (omega (arith, length_with_entry e bytes)) a u v hu hv)

pub length_blank : length blank ≡ 8320
unfolding blank
length_blank = length-replicate {A = ℕ} 8320 0

blank_bit : (i k : ℕ) → i < 8320 → bit blank i k ≡ false
unfolding blank
blank_bit i k h = bit_zero blank i k (get_or-replicate 8320 i 0 0 h)

-- what lies behind the table's bytes has no part in what they say
bit_front : (bytes rest : List ℕ) (i k : ℕ) → i < length bytes → bit (bytes ++ rest) i k ≡ bit bytes i k
bit_front bytes rest i k h = bit_same_byte (bytes ++ rest) bytes i k (get_or_append_left bytes rest 0 i h)

-- a bit that was not set before, and is read in a longer memory
decides_set : (b after before : Bool) (P : Type 0) → b ≡ after → before ≡ false → Sets after before P → Decides b P
unfolding Sets
decides_set b after before P same clear s =
    (λ t. ⊎_elim (λ f. absurd (false≢true (sym clear ∙ f))) (λ p. p) (s.0 (sym same ∙ t)), λ p. same ∙ s.1 (inr p))

pub entries_say : (c : Counts) → CountsFit c.modes c.commands c.flags → (es : List Entry) → AllByRecursion (EntryFits c) es → (rest : List ℕ) → Says es (with_entries es blank ++ rest)
entries_say c few es fits rest =
    let table = with_entries es blank in
    let long : length table ≡ 8320 = length_with_entries es blank ∙ length_blank in
    record {
      marks = λ p u hp hu.
          decides_set _ _ _ _
          (bit_front table rest (flag_byte p u) (u % 8) (omega arith))
          (blank_bit (flag_byte p u) (u % 8) (omega arith))
          (marks_set c few es fits blank (omega (arith, length_blank)) p u hp hu);
      arcs = λ a u v ha hu hv.
          decides_set _ _ _ _
          (bit_front table rest (arc_byte a u v) (v % 8) (omega arith))
          (blank_bit (arc_byte a u v) (v % 8) (omega arith))
          (arcs_set c few es fits blank (omega (arith, length_blank)) a u v hu hv);
    }

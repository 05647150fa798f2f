-- Sets: joined byte by byte, and compared byte by byte.
use Rattle.std.proofs.Common.{◌≡◌, ℕ, ◌+◌, ◌*◌, ◌/◌, ◌%◌, ◌^◌, ◌<◌, true, eqb, List, get_or, sym, ap, ◌∙◌, ⊎_elim, arith}
use native.Mathlib.Nat.{zero-div}
use lib.Bits.{bit_and, bit_or}
use Rattle.std.proofs.lemmas.Nat.{or_lt}
use Rattle.std.proofs.lemmas.Bool.{cases_eq}
use Rattle.sets.specs.Sets.{bit, member, BytesJoined, Joined, Meet, Within}
use Rattle.sets.proofs.Bits.{digit, or_bit, or_digit, and_digit, same_digits, some_digit, digit_set, set_digit}

-- all eight bytes joined are the set joined
pub joined_all : (to from : ℕ) (list old new : List ℕ) → ((i : ℕ) → i < 8 → get_or list i 0 ≡ get_or old (from + i) 0) → BytesJoined 8 to list old new → Joined to from old new
unfolding bit
joined_all to from list old new is b = record {
  gained = λ v h.
      let low : v / 8 < 8 = omega arith in
      ap (λ (x : ℕ). eqb (digit x (v % 8)) 1) (b.here (v / 8) low ∙ ap (bit_or (get_or old (to + v / 8) 0)) (is (v / 8) low))
      ∙ or_bit (get_or old (to + v / 8) 0) (get_or old (from + v / 8) 0) (v % 8);
  below = b.below;
  above = b.above;
}

module _ (bs : List ℕ) (a b : ℕ) where
  -- a mode by its byte and its bit
  mode_at : (at i k : ℕ) → k < 8 → digit (get_or bs (at + i) 0) k ≡ 1 → member bs at (8 * i + k) ≡ true
  mode_at at i k h e =
      let quotient : (8 * i + k) / 8 ≡ i = omega arith in
      let rest : (8 * i + k) % 8 ≡ k = omega arith in
      set_digit bs (at + (8 * i + k) / 8) ((8 * i + k) % 8)
      (ap (λ (j : ℕ). digit (get_or bs (at + j) 0) ((8 * i + k) % 8)) quotient ∙ ap (λ (j : ℕ). digit (get_or bs (at + i) 0) j) rest ∙ e)

  -- where two bytes have a bit in common the sets meet
  pub meet_here : (i : ℕ) → i < 8 → bit_and (get_or bs (a + i) 0) (get_or bs (b + i) 0) < 256 → (bit_and (get_or bs (a + i) 0) (get_or bs (b + i) 0) ≡ 0 → ⊥) → Meet bs a b
  meet_here i h small some =
      let (k, low, e) = some_digit 8 (bit_and (get_or bs (a + i) 0) (get_or bs (b + i) 0)) small some in
      let m = and_digit (get_or bs (a + i) 0) (get_or bs (b + i) 0) k in
      (8 * i + k, omega arith, mode_at a i k low (omega arith), mode_at b i k low (omega arith))

  -- the bytes of a mode have its bit
  bit_here : (at v : ℕ) → member bs at v ≡ true → digit (get_or bs (at + v / 8) 0) (v % 8) ≡ 1
  bit_here at v e = digit_set bs (at + v / 8) (v % 8) e

  -- where no two bytes have a bit in common the sets do not meet
  pub meet_nowhere : ((i : ℕ) → i < 8 → bit_and (get_or bs (a + i) 0) (get_or bs (b + i) 0) ≡ 0) → Meet bs a b → ⊥
  meet_nowhere none (v, h, p, q) =
      let m = and_digit (get_or bs (a + v / 8) 0) (get_or bs (b + v / 8) 0) (v % 8) in
      let x = bit_here a v p in
      let y = bit_here b v q in
      let z = ap (λ (w : ℕ). digit w (v % 8)) (none (v / 8) (omega arith)) ∙ ap (λ (w : ℕ). w % 2) (zero-div (2 ^ (v % 8))) in
      omega arith

  -- where each byte joined to its other is that other, the first set lies in the second
  pub within_all : ((i : ℕ) → i < 8 → bit_or (get_or bs (a + i) 0) (get_or bs (b + i) 0) ≡ get_or bs (b + i) 0) → Within bs a b
  within_all same v h p =
      let m = or_digit (get_or bs (a + v / 8) 0) (get_or bs (b + v / 8) 0) (v % 8) in
      let x = bit_here a v p in
      let z = ap (λ (w : ℕ). digit w (v % 8)) (same (v / 8) (omega arith)) in
      set_digit bs (b + v / 8) (v % 8) (omega arith)

  -- and the other way round
  pub within_here : (i : ℕ) → i < 8 → get_or bs (a + i) 0 < 256 → get_or bs (b + i) 0 < 256 → Within bs a b → bit_or (get_or bs (a + i) 0) (get_or bs (b + i) 0) ≡ get_or bs (b + i) 0
  within_here i h hx hy in_it =
      same_digits 8 (bit_or (get_or bs (a + i) 0) (get_or bs (b + i) 0)) (get_or bs (b + i) 0) (or_lt 8 (get_or bs (a + i) 0) (get_or bs (b + i) 0) hx hy) hy
      (λ k low.
      let m = or_digit (get_or bs (a + i) 0) (get_or bs (b + i) 0) k in
      ⊎_elim
      (λ one.
      let w = bit_here b (8 * i + k) (in_it (8 * i + k) (omega arith) (mode_at a i k low one)) in
      let quotient : (8 * i + k) / 8 ≡ i = omega arith in
      let rest : (8 * i + k) % 8 ≡ k = omega arith in
      let d : digit (get_or bs (b + i) 0) k ≡ 1 =
      ap (λ (j : ℕ). digit (get_or bs (b + i) 0) j) (sym rest) ∙ ap (λ (j : ℕ). digit (get_or bs (b + j) 0) ((8 * i + k) % 8)) (sym quotient) ∙ w in
      omega arith)
      (λ other. omega arith)
      (cases_eq (digit (get_or bs (a + i) 0) k) 1))

-- Two sets compared byte by byte.
use Rattle.std.proofs.Common.{◌≡◌, ℕ, ◌+◌, ◌<◌, Bool, true, false, List, length, get_or, refl, ap, ◌∙◌, subst, arith}
use Rattle.std.proofs.lemmas.Bool.{false≢true}
use Rattle.std.proofs.lemmas.Nat.{and_le_l}
use Rattle.std.proofs.lemmas.Slice.Zip.{get_or-zip, length-zip}
use Rattle.std.specs.Bool.{Decides, MatchBool}
use Rattle.std.specs.List.{zip, AllWithin, HoldsAt}
use lib.Bits.{bit_and, bit_or}
use Rattle.sets.specs.Sets.{Meet, Within}
use Rattle.sets.proofs.Joins.{meet_here, meet_nowhere, within_here, within_all}

-- the eight bytes of the set that begins at byte `at`
abbrev pub BytesAt : List ℕ → ℕ → List ℕ → Type 0
BytesAt bs at xs = (length xs ≡ 8) × ((i : ℕ) → i < 8 → get_or xs i 0 ≡ get_or bs (at + i) 0)

module _ (bs xs ys : List ℕ) (a b : ℕ) (bytes : (i : ℕ) → get_or bs i 0 < 256) (first : BytesAt bs a xs) (second : BytesAt bs b ys) where
  long : length (zip xs ys) ≡ 8
  long = let e = length-zip xs ys in omega (arith, e, first.0, second.0)

  pair : (k : ℕ) → k < 8 → get_or (zip xs ys) k (0, 0) ≡ (get_or bs (a + k) 0, get_or bs (b + k) 0)
  pair k h =
      get_or-zip xs ys k (0, 0) (omega (arith, first.0)) (omega (arith, second.0))
      ∙ ap (λ (x : ℕ). (x, get_or ys k 0)) (first.1 k h)
      ∙ ap (λ (y : ℕ). (get_or bs (a + k) 0, y)) (second.1 k h)

  -- some byte of the one has a bit in common with its other, or none has
  pub meet_decides :
      (r : Bool)
      → MatchBool r
      ((k : ℕ) × (k < length (zip xs ys)) × HoldsAt (λ p. bit_and p.0 p.1 ≡ 0 → ⊥) (zip xs ys) k)
      (AllWithin (λ p. bit_and p.0 p.1 ≡ 0) (zip xs ys) 0 (length (zip xs ys)))
      → Decides r (Meet bs a b)
  meet_decides true (k, h, some) =
      let low : k < 8 = omega (arith, long) in (
        λ _.
            meet_here bs a b k low (omega (arith, and_le_l (get_or bs (a + k) 0) (get_or bs (b + k) 0), bytes (a + k)))
            (subst (λ (p : ℕ × ℕ). bit_and p.0 p.1 ≡ 0 → ⊥) (pair k low) (some (0, 0))),
        λ _. refl,
      )
  meet_decides false none = (
    λ e. absurd (false≢true e),
    λ m. absurd (meet_nowhere bs a b (λ i h. subst (λ (p : ℕ × ℕ). bit_and p.0 p.1 ≡ 0) (pair i h) (none i (0, 0) (omega arith) (omega (arith, long)))) m),
  )

  -- each byte of the one joined to its other is that other, or some is not
  pub within_decides :
      (r : Bool)
      → MatchBool r
      (AllWithin (λ p. bit_or p.0 p.1 ≡ p.1) (zip xs ys) 0 (length (zip xs ys)))
      ((k : ℕ) × (k < length (zip xs ys)) × HoldsAt (λ p. bit_or p.0 p.1 ≡ p.1 → ⊥) (zip xs ys) k)
      → Decides r (Within bs a b)
  within_decides true all = (
    λ _. within_all bs a b (λ i h. subst (λ (p : ℕ × ℕ). bit_or p.0 p.1 ≡ p.1) (pair i h) (all i (0, 0) (omega arith) (omega (arith, long)))),
    λ _. refl,
  )
  within_decides false (k, h, other) =
      let low : k < 8 = omega (arith, long) in (
        λ e. absurd (false≢true e),
        λ in_it.
            absurd
            (subst (λ (p : ℕ × ℕ). bit_or p.0 p.1 ≡ p.1 → ⊥) (pair k low) (other (0, 0)) (within_here bs a b k low (bytes (a + k)) (bytes (b + k)) in_it)),
      )

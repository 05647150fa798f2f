-- Bits of numbers and of bytes: of two numbers joined or met, and what setting one bit changes and what it leaves.
use Rattle.std.proofs.Common.{◌≡◌, ℕ, zero, suc, ◌+◌, ◌-◌, ◌/◌, ◌%◌, ◌^◌, ◌<◌, ◌≤◌, min, max, Bool, true, false, ◌&&◌, ◌||◌, eqb, ◌≢◌, ◌⊎◌, List, length, get_or, drop, sym, ap, ◌∙◌, inl, inr, ⊎_elim, arith}
use native.Mathlib.Nat.{zero-div}
use mathlib.Core.Bool.{or-false}
use lib.Bits.{bit_and, bit_or, and_step, or_step}
use Rattle.std.proofs.lemmas.Nat.{pow_pos, pow-add, and_shr, or_shr, shl-shr, shr-shr, pow_below, div_below}
use Rattle.std.proofs.lemmas.List.{length-set, get_or-set_same, get_or-set_other, get_or_past, set_past, drop-set-lt}
use Rattle.std.proofs.lemmas.Bool.{cases_eq, cases_order, eq-eqb, ne_eqb, eqb-true}
use Rattle.std.proofs.lemmas.Bool.Decides.{nat_tests}
use Rattle.sets.specs.Sets.{bit, with_bit}

-- bit k of a number, as a number
abbrev pub digit : ℕ → ℕ → ℕ
digit x k = x / 2 ^ k % 2

-- a byte that is 0 has no bit
pub bit_zero : (bs : List ℕ) (i k : ℕ) → get_or bs i 0 ≡ 0 → bit bs i k ≡ false
unfolding bit
bit_zero bs i k e = ap (λ (x : ℕ). eqb (digit x k) 1) e ∙ ap (λ (x : ℕ). eqb (x % 2) 1) (zero-div (2 ^ k))

-- past the end there is no bit
pub bit_past : (bs : List ℕ) (i k : ℕ) → length bs ≤ i → bit bs i k ≡ false
bit_past bs i k h = bit_zero bs i k (get_or_past bs i 0 h)

-- past the end nothing is set
pub with_bit_past : (bs : List ℕ) (i k : ℕ) → length bs ≤ i → with_bit bs i k ≡ bs
unfolding with_bit
with_bit_past bs i k h = set_past bs i _ h

-- bytes that are equal have equal bits
pub bit_same_byte : (old bs : List ℕ) (i k : ℕ) → get_or old i 0 ≡ get_or bs i 0 → bit old i k ≡ bit bs i k
unfolding bit
bit_same_byte old bs i k e = ap (λ (x : ℕ). eqb (digit x k) 1) e

-- a bit of two numbers joined, and of two numbers met
pub or_digit : (a b k : ℕ) → digit (bit_or a b) k ≡ max (digit a k) (digit b k)
or_digit a b k = ap (λ (x : ℕ). x % 2) (or_shr a b k) ∙ omega (arith, or_step (a / 2 ^ k) (b / 2 ^ k))

pub and_digit : (a b k : ℕ) → digit (bit_and a b) k ≡ min (digit a k) (digit b k)
and_digit a b k = ap (λ (x : ℕ). x % 2) (and_shr a b k) ∙ omega (arith, and_step (a / 2 ^ k) (b / 2 ^ k))

-- the test of a joined bit is the test of the one or of the other
max_bit : (x y : ℕ) → x < 2 → y < 2 → eqb (max x y) 1 ≡ (eqb x 1 || eqb y 1)
max_bit x y h l = grind (arith, nat_tests)

pub or_bit : (a b k : ℕ) → eqb (digit (bit_or a b) k) 1 ≡ (eqb (digit a k) 1 || eqb (digit b k) 1)
or_bit a b k =
    ap (λ (x : ℕ). eqb x 1) (or_digit a b k) ∙ max_bit (digit a k) (digit b k) (omega arith) (omega arith)

-- a power of two, shifted
power_shr : (d m : ℕ) → 2 ^ (d + m) / 2 ^ m ≡ 2 ^ d
power_shr d m = ap (λ (x : ℕ). x / 2 ^ m) (pow-add 2 d m) ∙ shl-shr (2 ^ d) m

-- what is left of 2 ^ k past bit m, where m is k, where m is above k, and where m is below k
power_same : (k m : ℕ) → k ≡ m → 2 ^ k / 2 ^ m ≡ 1
power_same k m e =
    let f : k ≡ 0 + m = omega arith in
    ap (λ (x : ℕ). 2 ^ x / 2 ^ m) f ∙ power_shr 0 m

power_above : (k m : ℕ) → k < m → 2 ^ k / 2 ^ m < 1
power_above k m h = div_below (2 ^ k) (2 ^ m) 1 (pow_pos m) (omega (arith, pow_below k m h))

power_below : (k m : ℕ) → m < k → 2 ^ k / 2 ^ m % 2 ≡ 0
power_below k m h =
    let f : k ≡ ((k - m - 1) + 1) + m = omega arith in
    let e = ap (λ (x : ℕ). 2 ^ x / 2 ^ m) f ∙ power_shr ((k - m - 1) + 1) m ∙ pow-add 2 (k - m - 1) 1 in
    omega (arith, e)

power_bit_by : (k m : ℕ) → (k ≡ m) ⊎ ((k < m) ⊎ (m < k)) → eqb (digit (2 ^ k) m) 1 ≡ eqb k m
power_bit_by k m (inl e) = let h = power_same k m e in grind (arith, nat_tests)
power_bit_by k m (inr (inl l)) = let h = power_above k m l in grind (arith, nat_tests)
power_bit_by k m (inr (inr l)) = let h = power_below k m l in grind (arith, nat_tests)

-- a power of two has one bit
power_bit : (k m : ℕ) → eqb (digit (2 ^ k) m) 1 ≡ eqb k m
power_bit k m = power_bit_by k m (cases_order k m)

-- the bits of another byte stay
pub bit_other : (bs : List ℕ) (i k j m : ℕ) → i ≢ j → bit (with_bit bs i k) j m ≡ bit bs j m
unfolding bit with_bit
bit_other bs i k j m n = ap (λ (x : ℕ). eqb (digit x m) 1) (get_or-set_other bs i j _ 0 (λ e. n (sym e)))

-- the bits of the byte itself
pub bit_same : (bs : List ℕ) (i k m : ℕ) → i < length bs → bit (with_bit bs i k) i m ≡ (bit bs i m || eqb k m)
unfolding bit with_bit
bit_same bs i k m h =
    ap (λ (x : ℕ). eqb (digit x m) 1) (get_or-set_same bs i (bit_or (get_or bs i 0) (2 ^ k)) 0 h)
    ∙ or_bit (get_or bs i 0) (2 ^ k) m
    ∙ ap (λ (b : Bool). eqb (digit (get_or bs i 0) m) 1 || b) (power_bit k m)

bit_with_bit_by : (bs : List ℕ) (i k j m : ℕ) → (i ≡ j) ⊎ (i ≡ j → ⊥) → i < length bs → bit (with_bit bs i k) j m ≡ (bit bs j m || (eqb i j && eqb k m))
bit_with_bit_by bs i k j m (inl e) h = let t = eq-eqb i j e in let b = bit_same bs i k m h in (cc)
bit_with_bit_by bs i k j m (inr n) h = let t = ne_eqb i j n in let b = or-false (bit bs j m) in bit_other bs i k j m n ∙ (cc)

-- every bit after a bit was set
pub bit_with_bit : (bs : List ℕ) (i k j m : ℕ) → i < length bs → bit (with_bit bs i k) j m ≡ (bit bs j m || (eqb i j && eqb k m))
bit_with_bit bs i k j m h = bit_with_bit_by bs i k j m (cases_eq i j) h

-- setting a bit leaves the length
pub length_with_bit : (bs : List ℕ) (i k : ℕ) → length (with_bit bs i k) ≡ length bs
unfolding with_bit
length_with_bit bs i k = length-set bs i _

-- setting a bit leaves every other byte
pub get_or_with_bit : (bs : List ℕ) (i k j : ℕ) → i ≢ j → get_or (with_bit bs i k) j 0 ≡ get_or bs j 0
unfolding with_bit
get_or_with_bit bs i k j n = get_or-set_other bs i j _ 0 (λ e. n (sym e))

-- setting a bit leaves what lies behind its byte
pub drop_with_bit : (n : ℕ) (bs : List ℕ) (i k : ℕ) → i < n → drop n (with_bit bs i k) ≡ drop n bs
unfolding with_bit
drop_with_bit n bs i k h = drop-set-lt n bs i _ h

-- the bits of a number's half are those of the number, from the second on
digit_half : (x k : ℕ) → digit (x / 2) k ≡ digit x (suc k)
digit_half x k =
    let f : 1 + k ≡ suc k = omega arith in
    ap (λ (y : ℕ). y % 2) (shr-shr x 1 k) ∙ ap (λ (j : ℕ). digit x j) f

-- two numbers below 2 ^ n whose bits are equal are equal
pub same_digits : (n x y : ℕ) → x < 2 ^ n → y < 2 ^ n → ((k : ℕ) → k < n → digit x k ≡ digit y k) → x ≡ y
same_digits zero x y h l each = omega arith
same_digits (suc n) x y h l each =
    let first = each 0 (omega arith) in
    let rest = same_digits n (x / 2) (y / 2) (omega arith) (omega arith) (λ k low. digit_half x k ∙ each (suc k) (omega arith) ∙ sym (digit_half y k)) in
    omega arith

-- a number below 2 ^ n that is not 0 has a bit
pub some_digit : (n x : ℕ) → x < 2 ^ n → (x ≡ 0 → ⊥) → (k : ℕ) × (k < n) × (digit x k ≡ 1)
some_digit zero x h some = absurd (some (omega arith))
some_digit (suc n) x h some =
    ⊎_elim
    (λ odd. (0, omega arith, odd))
    (λ even.
    let (k, l, e) = some_digit n (x / 2) (omega arith) (λ z. some (omega arith)) in
    (suc k, omega arith, sym (digit_half x k) ∙ e))
    (cases_eq (digit x 0) 1)

-- a bit that is set, as a number
pub digit_set : (bs : List ℕ) (i k : ℕ) → bit bs i k ≡ true → digit (get_or bs i 0) k ≡ 1
unfolding bit
digit_set bs i k e = eqb-true _ 1 e

pub set_digit : (bs : List ℕ) (i k : ℕ) → digit (get_or bs i 0) k ≡ 1 → bit bs i k ≡ true
unfolding bit
set_digit bs i k e = eq-eqb _ 1 e

-- bits that are both set or both not are equal as numbers
pub same_digit : (xs ys : List ℕ) (i k : ℕ) → bit xs i k ≡ bit ys i k → digit (get_or xs i 0) k ≡ digit (get_or ys i 0) k
unfolding bit
same_digit xs ys i k e = same_test (digit (get_or xs i 0) k) (digit (get_or ys i 0) k) (omega arith) (omega arith) e
  where
    same_test : (x y : ℕ) → x < 2 → y < 2 → eqb x 1 ≡ eqb y 1 → x ≡ y
    same_test x y h l e = grind (arith, nat_tests)

-- Every setting has its number, every mode is a setting, and what is made of dials that fit.
use Rattle.std.proofs.Common.{◌≡◌, ℕ, ◌+◌, ◌*◌, ◌/◌, ◌%◌, List, sym, ap, subst, ◌∙◌, mul_assoc, mul_comm, add-mul, arith}
use native.Mathlib.Nat.{div-div-eq-div-mul}
use Rattle.std.proofs.lemmas.Nat.{div-add-mod', div_below, div-mul-add, mod_below, mod-mul-add, mul-add-lt, mul-le}
use Rattle.dial_graph.specs.Dials.{CountsFit, Fits, SizesFit, dial_meaning, number, sizes_of}
use Rattle.dial_graph.specs.Made.{Accepted, AllAreSettings, AllHaveNumbers}
use Rattle.dial_graph.specs.declared.rules.Rule.{Rule}
use Rattle.dial_graph.specs.declared.rules.DialFlag.{DialFlag}
use Rattle.dial_graph.specs.declared.sizes.Sizes.{Sizes}

-- a number by rows of the first dial, and by rows of the first two dials
by_first : (d e x y z : ℕ) → x + d * y + d * e * z ≡ (z * e + y) * d + x
by_first d e x y z =
    let same : d * e * z ≡ z * e * d = mul_comm (d * e) z ∙ ap (λ (n : ℕ). z * n) (mul_comm d e) ∙ sym (mul_assoc z e d) in
    omega (arith, add-mul (z * e) y d)

by_two : (d e x y z : ℕ) → x + d * y + d * e * z ≡ z * (d * e) + (y * d + x)
by_two d e x y z = omega arith

-- every setting has its number
pub all_have_numbers : (s : Sizes) → AllHaveNumbers s
all_have_numbers s x y z hx hy hz =
    let low = mul-add-lt y s.first x s.second hy hx in
    let rows : number s x y z / s.first ≡ z * s.second + y =
    ap (λ (n : ℕ). n / s.first) (by_first s.first s.second x y z) ∙ div-mul-add _ s.first x hx in
    record {
      is_mode = omega (arith, by_two s.first s.second x y z, mul-add-lt z (s.first * s.second) (y * s.first + x) s.third hz low);
      first = ap (λ (n : ℕ). n % s.first) (by_first s.first s.second x y z) ∙ mod-mul-add _ s.first x hx;
      second = ap (λ (n : ℕ). n % s.second) rows ∙ mod-mul-add z s.second y hy;
      third = ap (λ (n : ℕ). n / (s.first * s.second)) (by_two s.first s.second x y z) ∙ div-mul-add z (s.first * s.second) _ low;
    }

-- every mode is a setting, where each dial has a position
pub all_are_settings : (s : Sizes) → SizesFit s → AllAreSettings s
all_are_settings s fit u h =
    let rest = u / s.first in
    let two = mul-le 1 1 s.first s.second fit.first_low fit.second_low in
    let rows = sym (div-div-eq-div-mul u s.first s.second) in
    let back : number s (u % s.first) (rest % s.second) (rest / s.second) ≡ u =
    by_first s.first s.second (u % s.first) (rest % s.second) (rest / s.second)
    ∙ ap (λ (n : ℕ). n * s.first + u % s.first) (div-add-mod' rest s.second)
    ∙ div-add-mod' u s.first in
    record {
      first = mod_below u s.first fit.first_low;
      second = mod_below rest s.second fit.second_low;
      third = div_below u (s.first * s.second) s.third two (omega (arith, mul_comm s.third (s.first * s.second)));
      its_number = ap (number s (u % s.first) (rest % s.second)) rows ∙ back;
    }

-- what is accepted, where the limits are kept
pub accepted : (dials : List ℕ) (c : ℕ) (rules : List Rule) (flags : List DialFlag) (s : Sizes) → s ≡ sizes_of dials → Fits dials c rules flags → Accepted dials c rules flags (dial_meaning s c rules flags)
accepted dials c rules flags s e fits = record {
  fits = fits;
  means = ap (λ (x : Sizes). dial_meaning x c rules flags) e;
  numbers = all_have_numbers (sizes_of dials);
  modes = all_are_settings (sizes_of dials) fits.positions;
}

-- and the sizes then fit
pub counts_fit : (dials : List ℕ) (c : ℕ) (rules : List Rule) (flags : List DialFlag) (s : Sizes) → s ≡ sizes_of dials → Fits dials c rules flags → CountsFit s c flags
counts_fit dials c rules flags s e fits = subst (λ (x : Sizes). CountsFit x c flags) (sym e) (record {
  positions = fits.positions;
  settings_high = fits.settings_high;
  commands_low = fits.commands_low;
  commands_high = fits.commands_high;
  flags_high = fits.flags_high;
})

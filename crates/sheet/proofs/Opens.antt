-- The readers of formulas and programs, from their opening bracket on.
use Rattle.std.proofs.Common.{◌≡◌, ℕ, zero, suc, ◌-◌, false, cond, eqb, refl, arith}
use Rattle.std.proofs.lemmas.Bool.{ne_eqb}
use Rattle.words.specs.declared.fault.Place.{Place}
use Rattle.sheet.specs.Reading.{State, Step, done, failed, then, refused_form, bracket_at, open_at, close_at, formula_at, formula_inside, formula_row_at, program_at, program_inside, program_row_at}

less_one : (d : ℕ) → suc d - 1 ≡ d
less_one d = omega arith

more_left : (d : ℕ) → eqb (suc d) 0 ≡ false
more_left d = ne_eqb (suc d) 0 (λ e. omega arith)

-- a step behind a bracket is a step behind what follows it
opens : (o : Step Place) (d : ℕ) (f : Place → State → Step ℕ) (rest : ℕ → State → Step ℕ) → ((at : Place) (s : State) → f at s ≡ then (cond (eqb d 0) (refused_form 5 at s) (done (d - 1) s)) rest) → then o f ≡ then (then o (λ at s. cond (eqb d 0) (refused_form 5 at s) (done (d - 1) s))) rest
opens (done at s) d f rest each = each at s
opens (failed e) d f rest each = refl

formula_behind : (d : ℕ) (at : Place) (s : State) → formula_inside d at s ≡ then (cond (eqb d 0) (refused_form 5 at s) (done (d - 1) s)) (λ e s. then (formula_row_at e s) close_at)
formula_behind zero at s = refl
formula_behind (suc d) at s = rw (more_left d, less_one) refl

program_behind : (d : ℕ) (at : Place) (s : State) → program_inside d at s ≡ then (cond (eqb d 0) (refused_form 5 at s) (done (d - 1) s)) (λ e s. then (program_row_at e s) close_at)
program_behind zero at s = refl
program_behind (suc d) at s = rw (more_left d, less_one) refl

pub formula_opens : (d : ℕ) (s : State) → formula_at d s ≡ then (open_at d s) (λ e s. then (formula_row_at e s) close_at)
formula_opens d s = opens (bracket_at s) d (formula_inside d) (λ e s. then (formula_row_at e s) close_at) (formula_behind d)

pub program_opens : (d : ℕ) (s : State) → program_at d s ≡ then (open_at d s) (λ e s. then (program_row_at e s) close_at)
program_opens d s = opens (bracket_at s) d (program_inside d) (λ e s. then (program_row_at e s) close_at) (program_behind d)

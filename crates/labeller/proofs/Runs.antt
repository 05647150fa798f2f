-- One table, and one answer, for every run over the same meaning.
use Rattle.std.proofs.Common.{◌≡◌, ℕ, ◌≤◌, List, length, Ok, Err, Result, sym, refl, ⊎_elim, arith}
use Rattle.graph.specs.Meaning.{Meaning}
use Rattle.logic.specs.declared.row.Claim.{Claim}
use Rattle.logic.specs.declared.row.Row.{Row}
use Rattle.label_table.proofs.Alike.{one_table}
use Rattle.labeller.specs.declared.refusal.Refusal.{Refusal}
use Rattle.labeller.specs.Refusals.{refusal_number}
use Rattle.labeller.specs.Labelling.{Labelling, Ground, OneTable, Alike}

module _ (m : Meaning) (few : m.modes ≤ 64) (rows : List Row) (claims : List Claim) where
  -- what was labelled is the one table
  pub only_table : (old new : List ℕ) (r : Result (Unit {0}) Refusal) → Labelling m rows claims old r new → OneTable m rows r new
  only_table old new (Ok done) l = λ other table. one_table m few rows other new table l.table
  only_table old new (Err e) l = tt

  -- an accepted run and a refused one are not over memories of the same size
  apart : (old before : List ℕ) (number : ℕ) (new : List ℕ) → length before ≡ length old → Labelling m rows claims old (Ok tt) new → Ground m rows claims before number → ⊥
  apart old before number new size l g =
      let enough = l.enough in ⊎_elim (λ short. omega (arith, short.1)) (λ unfit. unfit.2 l.fits) g

  -- two refusals over memories of the same size have the same number
  same_ground : (old before : List ℕ) (a b : ℕ) → length before ≡ length old → Ground m rows claims old a → Ground m rows claims before b → b ≡ a
  same_ground old before a b size g h =
      ⊎_elim
      (λ short. ⊎_elim (λ other. omega (arith, short.0, other.0)) (λ other. absurd (omega (arith, short.1, other.1))) h)
      (λ unfit. ⊎_elim (λ other. absurd (omega (arith, unfit.1, other.1))) (λ other. omega (arith, unfit.0, other.0)) h)
      g

  -- every other run is alike
  pub runs_alike : (old new : List ℕ) (r : Result (Unit {0}) Refusal) → Labelling m rows claims old r new → Alike m rows claims old r new
  runs_alike old new (Ok done) l before after (Ok also) size k = (refl, one_table m few rows after new k.table l.table)
  runs_alike old new (Ok done) l before after (Err e) size k = absurd (apart old before (refusal_number e) new size l k.1)
  runs_alike old new (Err e) l before after (Ok also) size k = absurd (apart before old (refusal_number e) after (sym size) k l.1)
  runs_alike old new (Err e) l before after (Err f) size k =
      (same_ground old before (refusal_number e) (refusal_number f) size l.1 k.1, tt)

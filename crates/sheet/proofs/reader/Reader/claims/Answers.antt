use Rattle.std.proofs.Common.{◌≡◌, ℕ, zero, suc, ◌<◌, List, None, Option, sym, refl, ap, ◌∙◌, arith}
use Rattle.std.proofs.lemmas.Result.{err_from_is_err_and}
use Rattle.words.specs.Numbers.{Refused}
use Rattle.logic.specs.declared.row.Claim.{Claim}
use Rattle.sheet.specs.Reading.{State, done, failed, claim_at, reader_claims, state, within_claims}
use Rattle.sheet.proofs.reader.Reader.claims.Goals as goal

-- where the next line is refused, so are all claims
claims_failed : (k m : ℕ) (claims : List Claim) (s : State) (e : Refused) → m < k → failed e ≡ claim_at claims s → within_claims k claims s ≡ failed e
claims_failed zero m claims s e lt h = absurd (omega arith)
claims_failed (suc k) m claims s e lt h = rw (← h) refl

-- where the text has ended, there are no more
claims_all : (k m : ℕ) (claims : List Claim) (s t : State) (o : Option Claim) → m < k → done o t ≡ claim_at claims s → o ≡ None → within_claims k claims s ≡ done claims t
claims_all zero m claims s t o lt h is = absurd (omega arith)
claims_all (suc k) m claims s t o lt h is = rw (← h, is) refl

pub returns-in_err-claim-clause-reads : goal.returns-in_err-claim-clause-reads
returns-in_err-claim-clause-reads c =
    let i = c.loop-claim.invariant in
    let p = err_from_is_err_and c.from_residual.result c.from_residual.ensures.1 in
    rw (p.1, p.2) (sym (i.1 ∙ claims_failed i.0 _ (reader_claims c.loop-claim.self) (state c.loop-claim.self) _ i.2 c.in_err-claim.ensures.reads))

pub returns-clause-reads : goal.returns-clause-reads
returns-clause-reads c =
    let i = c.loop-claim.invariant in
    let r = c.in_ok-claim.ensures in
    ap (λ (x : List Claim). done x (state c.claim.new.self)) r.claims
    ∙ sym (i.1 ∙ claims_all i.0 _ (reader_claims c.loop-claim.self) (state c.loop-claim.self) (state c.claim.new.self) _ i.2 r.reads c.in_default.is)

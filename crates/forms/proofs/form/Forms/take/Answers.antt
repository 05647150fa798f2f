-- What words say of the next token, and what the function picked of it, are a case of the definition.
use Rattle.std.proofs.Common.{sym, refl, rules}
use Rattle.std.proofs.lemmas.Result.{err_from_is_err_and}
use Rattle.forms.specs.Forms.{token_taken, token_refused, no_token}
use Rattle.forms.proofs.form.Forms.take.Goals as goal

pub returns-in_err-t-clause-reads : goal.returns-in_err-t-clause-reads
returns-in_err-t-clause-reads g c =
    let p = err_from_is_err_and c.from_residual.result c.from_residual.ensures.1 in
    rw (p.1, p.2) (no_token _ (sym c.in_err-t.ensures.reads) refl)

pub returns-in-Some-clause-reads : goal.returns-in-Some-clause-reads
returns-in-Some-clause-reads g c = token_taken c.in_ok-t.t c.in-Some.value (sym c.in_ok-t.ensures.reads) c.in-Some.ensures refl

pub returns-in-None-clause-reads : goal.returns-in-None-clause-reads
returns-in-None-clause-reads g c = token_refused c.in_ok-t.t (sym c.in_ok-t.ensures.reads) c.in-None.ensures (search rules)

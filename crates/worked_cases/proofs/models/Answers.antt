-- The cases are proved of the definitions alone.
use Rattle.worked_cases.proofs.Proved.{worked_cases}
use Rattle.worked_cases.proofs.models.Goals as goal

pub returns-clause-cases : goal.returns-clause-cases
returns-clause-cases c = worked_cases

-- The lemmas on deciding say it.
use Rattle.logic.proofs.Deciding.{all_decided}
use Rattle.logic.proofs.decided.truth_is_decided.Goals as goal

pub returns-clause-decided : goal.returns-clause-decided
returns-clause-decided c = all_decided

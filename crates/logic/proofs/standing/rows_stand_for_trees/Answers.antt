-- The lemmas on rows say it.
use Rattle.logic.proofs.Rows.{rows_stand}
use Rattle.logic.proofs.standing.rows_stand_for_trees.Goals as goal

pub returns-clause-stand : goal.returns-clause-stand
returns-clause-stand c = rows_stand

-- The brackets that may still be opened fall with each bracket.
use Rattle.std.proofs.Common.{◌+◌, ◌*◌}
use Rattle.sheet.proofs.reader.Reader.+trees.Given as goal

abbrev pub decreases-formula : goal.decreases-formula
decreases-formula l = 2 * l.depth

abbrev pub decreases-formula_row : goal.decreases-formula_row
decreases-formula_row l = 2 * l.depth + 1

abbrev pub decreases-program : goal.decreases-program
decreases-program l = 2 * l.depth

abbrev pub decreases-program_row : goal.decreases-program_row
decreases-program_row l = 2 * l.depth + 1

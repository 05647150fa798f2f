-- What is still to be read after the claims so far is what was to be read at the start.
use Rattle.std.proofs.Common.{◌≡◌, ℕ, ◌<◌}
use Rattle.words.specs.Words.{left}
use Rattle.sheet.specs.Reading.{claims_from, reader_claims, state, within_claims}
use Rattle.sheet.proofs.reader.Reader.claims.Given as goal

abbrev pub invariant-loop-claim : goal.invariant-loop-claim
invariant-loop-claim l = (k : ℕ) × (claims_from (reader_claims l.initial.self) (state l.initial.self) ≡ within_claims k (reader_claims l.self) (state l.self)) × (left l.self.forms.words < k) × (l.self.sheet.ghost_name ≡ l.initial.self.sheet.ghost_name)

abbrev pub decreases-loop-claim : goal.decreases-loop-claim
decreases-loop-claim l = left l.self.forms.words

use Rattle.std.proofs.Common.{◌≡◌, ℕ, ◌<◌, ◌≤◌}
use Rattle.words.specs.Words.{left}
use Rattle.forms.specs.Forms.{form_reading, within_lines, next_form}
use Rattle.forms.proofs.form.Forms.next_form.Given as goal

abbrev pub invariant-loop-next : goal.invariant-loop-next
invariant-loop-next l = (k : ℕ) × (next_form (form_reading l.initial.self) ≡ within_lines k (form_reading l.self)) × (left l.self.words < k) × (left l.self.words ≤ left l.initial.self.words)

abbrev pub decreases-loop-next : goal.decreases-loop-next
decreases-loop-next l = left l.self.words

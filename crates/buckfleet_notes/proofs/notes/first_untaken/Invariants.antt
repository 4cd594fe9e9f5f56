use Rattle.std.proofs.Common.{◌≡◌, ℕ, ◌<◌, false}
use Rattle.buckfleet_notes.specs.Notes.{is_untaken}
use Rattle.buckfleet_notes.proofs.notes.first_untaken.Given as goal

abbrev pub invariant-loop-place : goal.invariant-loop-place
invariant-loop-place l = (k : ℕ) → k < l.place → is_untaken l.instruction l.species k ≡ false

use Rattle.std.proofs.Common.{◌≡◌, ℕ, ◌<◌, false}
use Rattle.buckfleet_notes.specs.Notes.{is_namesake}
use Rattle.buckfleet_notes.proofs.notes.first_namesake.Given as goal

abbrev pub invariant-loop-place : goal.invariant-loop-place
invariant-loop-place l = (k : ℕ) → k < l.place → is_namesake l.instruction.assortments k ≡ false

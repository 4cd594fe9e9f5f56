use Rattle.std.proofs.Common.{◌≡◌, ◌==◌, ℕ, ◌<◌, false, take}
use Rattle.std.specs.List.{list_any}
use Rattle.std.specs.Ordering.{nat_cmp}
use Rattle.std.specs.BTreeSet.{contains}
use Rattle.buckfleet_notes.specs.Notes.{is_again}
use Rattle.buckfleet_notes.proofs.notes.first_again.Given as goal

abbrev pub invariant-loop-place : goal.invariant-loop-place
invariant-loop-place l = record {
  apart : (k : ℕ) → k < l.place → is_again l.numbers k ≡ false;
  seen : (n : ℕ) → contains nat_cmp l.seen n ≡ list_any (λ m. m == n) (take l.place l.numbers);
}

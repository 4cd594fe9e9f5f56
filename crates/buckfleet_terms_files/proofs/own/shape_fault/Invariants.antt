use Rattle.std.proofs.Common.{◌≡◌, ℕ, ◌<◌}
use Rattle.buckfleet_terms_files.specs.Own.{HaveLogsAt}
use Rattle.buckfleet_terms_files.proofs.own.shape_fault.Given as goal

abbrev pub invariant-loop-assortment : goal.invariant-loop-assortment
invariant-loop-assortment l = record {
  before : (k : ℕ) → k < l.assortment → HaveLogsAt l.instruction l.own k;
  theirs_are : l.theirs ≡ l.instruction.assortments;
  assortments_are : l.assortments ≡ l.own.assortments;
}

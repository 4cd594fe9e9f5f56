use Rattle.std.proofs.Common.{◌≡◌, ◌<◌, ◌≤◌, ◌-◌, ℕ, length}
use Rattle.buck_rule.specs.GivenBy.{GivesBy}
use Rattle.buck_rule.specs.declared.named.NamedRule.{NamedRule}
use Rattle.buck_book_postings.specs.Walk.{walk_of}
use Rattle.buck_book_journal.specs.Journal.{history_of}
use Rattle.buckfleet_engine_files.specs.Ruled.{ArePricesAt}
use Rattle.buckfleet_engine_cross_check.proofs.prices.first_fault.Given as goal

abbrev pub invariant-loop-walk : goal.invariant-loop-walk
invariant-loop-walk g l = record {
  same : l.walk ≡ walk_of l.fn.instruction.value l.fn.journal.entries l.walk.at;
  within : l.walk.at ≤ length l.fn.journal.entries;
  before : (named : NamedRule) → GivesBy g.F.Fn l.rule named → (k : ℕ) → k < l.walk.at
      → ArePricesAt named (history_of l.fn.instruction.value l.fn.journal) k;
}

abbrev pub decreases-loop-walk : goal.decreases-loop-walk
decreases-loop-walk g l = length l.fn.journal.entries - l.walk.at

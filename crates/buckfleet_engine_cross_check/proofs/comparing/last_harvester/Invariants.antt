use Rattle.std.proofs.Common.{◌≤◌, ◌<◌, ℕ, get_or}
use Rattle.buck_book_postings.specs.declared.posting.Posting.{Posting}
use Rattle.buck_book_postings.specs.Posting.{harvester_of}
use Rattle.buckfleet_engine_cross_check.proofs.comparing.last_harvester.Given as goal

abbrev pub invariant-loop-posting : goal.invariant-loop-posting
invariant-loop-posting l = record {
  all : (k : ℕ) (d : Posting) → k < l.posting-index → harvester_of (get_or l.postings k d) ≤ l.last;
  least : l.fn.least ≤ l.last;
}

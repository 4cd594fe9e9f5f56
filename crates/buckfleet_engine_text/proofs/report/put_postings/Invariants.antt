use Rattle.std.proofs.Common.{◌≡◌, ◌++◌, take}
use Rattle.buckfleet_engine_text.specs.Report.{posting_lines}
use Rattle.buckfleet_engine_text.proofs.report.put_postings.Given as goal

abbrev pub invariant-loop-at : goal.invariant-loop-at
invariant-loop-at l = l.out.items ≡ l.initial.out.items ++ posting_lines 0 (take l.at l.postings)

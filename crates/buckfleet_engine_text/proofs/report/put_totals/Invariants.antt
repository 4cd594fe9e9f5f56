use Rattle.std.proofs.Common.{◌≡◌, ◌*◌, ◌≤◌, take}
use Rattle.std.specs.Prelude.{sum_by}
use Rattle.buckfleet_engine_text.specs.Report.{logs_in, worth_in}
use Rattle.buckfleet_engine_text.proofs.report.put_totals.Given as goal

abbrev pub invariant-loop-posting : goal.invariant-loop-posting
invariant-loop-posting l = record {
  logs : l.logs ≡ sum_by logs_in (take l.posting-index l.postings);
  worth : l.worth ≡ sum_by worth_in (take l.posting-index l.postings);
  logs_low : l.logs ≤ l.posting-index * 18446744073709551616;
  worth_low : l.worth ≤ l.posting-index * 18446744073709551616;
}

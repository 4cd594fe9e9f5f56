use Rattle.std.proofs.Common.{◌≡◌, ◌≤◌, take}
use Rattle.std.specs.Prelude.{sum_by}
use Rattle.buckfleet_engine_text.specs.Report.{cuts_in}
use Rattle.buckfleet_engine_text.proofs.report.cuts_of.Given as goal

abbrev pub invariant-loop-posting : goal.invariant-loop-posting
invariant-loop-posting l = record {
  cuts : l.cuts ≡ sum_by cuts_in (take l.posting-index l.postings);
  few : l.cuts ≤ l.posting-index;
}

use Rattle.std.proofs.Common.{◌≡◌, ◌≤◌, ◌++◌, length, take, drop}
use Rattle.buckfleet_engine_cross_check.specs.inner.Tie.{stems_cut_in}
use Rattle.buckfleet_engine_cross_check.proofs.comparing.first_difference.Given as goal

abbrev pub invariant-loop-posting : goal.invariant-loop-posting
invariant-loop-posting l = record {
  few : l.cuts ≤ l.posting-index;
  within : l.cuts ≤ length l.file;
  so_far : stems_cut_in l.harvester l.postings ≡ take l.cuts l.file
      ++ stems_cut_in l.harvester (drop l.posting-index l.postings);
}

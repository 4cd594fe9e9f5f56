use Rattle.std.proofs.Common.{◌≡◌, ◌≤◌, ◌<◌, ℕ}
use Rattle.buckfleet_engine_cross_check.specs.Ties.{stems_of_file}
use Rattle.buckfleet_engine_cross_check.specs.inner.Tie.{stems_cut_in, stems_in_lists}
use Rattle.buckfleet_engine_cross_check.proofs.comparing.compare_stems.Given as goal

abbrev pub invariant-loop-at : goal.invariant-loop-at
invariant-loop-at l = (h : ℕ) → 0 < h → h ≤ l.at → stems_cut_in h l.postings ≡ stems_of_file (stems_in_lists l.files) h

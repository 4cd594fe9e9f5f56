use Rattle.std.proofs.Common.{◌≡◌, ◌*◌, ◌<◌, ◌≤◌, ℕ, take, sum_by}
use Rattle.buck_value.specs.Allowed.{worth_of}
use Rattle.buck_dp_own_logs.specs.declared.reason.Reason.{Reason}
use Rattle.buck_dp_own_logs.specs.Judged.{cut_to, AppliesAt}
use Rattle.buck_dp_own_logs.proofs.judging.judge.Given as goal

abbrev pub invariant-loop-k : goal.invariant-loop-k
invariant-loop-k l = record {
  from : l.from ≡ cut_to l.sheet.instruction (take l.k l.logs);
  low : l.from ≤ 40000;
  none : (j : ℕ) (s : Reason) → j < l.k → AppliesAt l.sheet.instruction l.stem l.logs j s → ⊥;
  worth : l.worth ≡ sum_by (worth_of l.sheet l.stem) (take l.k l.logs);
  few : l.worth ≤ 70000000000 * l.from;
}

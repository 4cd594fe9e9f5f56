use Rattle.buck_dp.proofs.Words.{take, drop, ◌≡◌, ◌≤◌, ◌*◌, ◌↔◌, sum_by, IsAllowed, worth_of, end_of, IsCutFrom, IsAdmissible}
use Rattle.buck_dp.proofs.judging.worth_if_admissible.Given as goal

abbrev pub invariant-loop-log : goal.invariant-loop-log
invariant-loop-log l = record {
  cut : IsAdmissible l.sheet l.stem l.log-items
      ↔ IsCutFrom (IsAllowed l.sheet.instruction l.stem) (end_of l.sheet.instruction) l.from
      (drop l.log-index l.log-items);
  total : l.total ≡ sum_by (worth_of l.sheet l.stem) (take l.log-index l.log-items);
  few : l.total ≤ 70000000000 * l.from;
}

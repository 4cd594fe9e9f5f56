use Rattle.std.proofs.Common.{◌*◌, ◌≤◌, ◌^◌, take}
use Rattle.buck_page_figures.specs.inner.Adding.{IsWoodOf}
use Rattle.buck_page_figures.proofs.adding.wood_of.Given as goal

abbrev pub invariant-loop-log : goal.invariant-loop-log
invariant-loop-log l = record {
  wood : IsWoodOf l.base l.stem (take l.log-index l.logs) l.wood;
  thin : l.wood.volume ≤ 3142 * l.wood.logged;
  volume : l.wood.volume ≤ l.log-index * 2 ^ 64;
  logged : l.wood.logged ≤ l.log-index * 2 ^ 64;
  trim : l.wood.trim ≤ l.log-index * 2 ^ 64;
  at_base : l.wood.at_base ≤ l.log-index * 2 ^ 64;
}

use Rattle.std.proofs.Common.{◌*◌, ◌≤◌, ◌^◌, List, take}
use Rattle.buck_value.specs.declared.log.Log.{Log}
use Rattle.buckfleet_proceeds.specs.inner.Logs.{AreAdded}
use Rattle.buckfleet_proceeds.proofs.paying.add_logs.Given as goal

abbrev pub invariant-loop-log : goal.invariant-loop-log
invariant-loop-log l = record {
  added : (bought : List Log) × AreAdded l.sheet l.stem (take l.log-index l.logs) bought l.fn.parts.items l.parts.items
      l.unbought l.volume l.worth;
  few : l.unbought ≤ l.log-index;
  small_volume : l.volume ≤ l.log-index * 2 ^ 64;
  small_worth : l.worth ≤ l.log-index * 2 ^ 64;
}

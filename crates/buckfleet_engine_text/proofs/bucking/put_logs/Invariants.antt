use Rattle.std.proofs.Common.{◌≡◌, ◌++◌, take}
use Rattle.std.specs.List.{flat_map}
use Rattle.buckfleet_engine_text.specs.Bucking.{log_line}
use Rattle.buckfleet_engine_text.proofs.bucking.put_logs.Given as goal

abbrev pub invariant-loop-log : goal.invariant-loop-log
invariant-loop-log l = l.out.items ≡ l.initial.out.items ++ flat_map (log_line l.sheet l.stem) (take l.log-index l.logs)

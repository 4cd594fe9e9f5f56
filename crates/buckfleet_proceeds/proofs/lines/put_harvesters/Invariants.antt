use Rattle.std.proofs.Common.{◌≡◌, ◌++◌, Some, codes}
use Rattle.std.specs.List.{flat_map}
use Rattle.buckfleet_proceeds.specs.Text.{harvester_lines, whole_line}
use Rattle.buckfleet_proceeds.proofs.lines.put_harvesters.Given as goal

abbrev pub invariant-loop-harvester : goal.invariant-loop-harvester
invariant-loop-harvester l =
    l.out.items ++ flat_map (λ e. whole_line (codes "harvester") (Some e.0) e.1) l.harvester-iterator
    ≡ l.initial.out.items ++ harvester_lines l.harvesters

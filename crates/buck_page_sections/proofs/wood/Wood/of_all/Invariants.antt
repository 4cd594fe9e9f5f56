use Rattle.std.proofs.Common.{◌≤◌, ◌*◌, ◌^◌}
use Rattle.buck_page_sections.proofs.wood.Wood.of_all.Given as goal

abbrev pub invariant-loop-part : goal.invariant-loop-part
invariant-loop-part l =
    record {
      logs : l.logs ≤ l.part-index * 2 ^ 32;
      volume : l.volume ≤ l.part-index * 2 ^ 96;
      at_base : l.at_base ≤ l.part-index * 2 ^ 96;
    }

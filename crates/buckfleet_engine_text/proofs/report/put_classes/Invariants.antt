use Rattle.std.proofs.Common.{◌≡◌, ◌++◌}
use Rattle.std.specs.List.{flat_map, range_with_len}
use Rattle.buckfleet_engine_text.specs.Report.{row_lines}
use Rattle.buckfleet_engine_text.proofs.report.put_classes.Given as goal

abbrev pub invariant-loop-row : goal.invariant-loop-row
invariant-loop-row l =
    l.out.items ≡ l.initial.out.items
    ++ flat_map (λ row. row_lines l.ending l.assortment l.at row) (range_with_len 0 l.row)

use Rattle.std.proofs.Common.{◌≡◌, ◌++◌}
use Rattle.std.specs.List.{flat_map, range_with_len}
use Rattle.buckfleet_engine_text.specs.Report.{class_line}
use Rattle.buckfleet_engine_text.proofs.report.put_row.Given as goal

abbrev pub invariant-loop-column : goal.invariant-loop-column
invariant-loop-column l =
    l.out.items
    ≡ l.initial.out.items
    ++ flat_map
    (λ column. class_line l.ending l.assortment
    (record { assortment = l.first.assortment; row = l.first.row; column = column })) (range_with_len 0 l.column)

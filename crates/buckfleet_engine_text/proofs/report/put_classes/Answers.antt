use Rattle.buckfleet_engine_text.specs.Report.{row_lines}
use Rattle.buckfleet_engine_text.proofs.Reports.{line_more}
use Rattle.buckfleet_engine_text.proofs.report.put_classes.Goals as goal

pub loop-row-preserved : goal.loop-row-preserved
loop-row-preserved c =
    line_more
    (λ row. row_lines c.args.ending.now c.args.assortment.now c.args.at row)
    c.loop-row.row c.args.out.now.items c.loop-row.out.items c.put_row.new.out.items c.loop-row.invariant
    c.in_ok-put_row.ensures

use Rattle.buckfleet_engine_text.specs.Report.{class_line}
use Rattle.buckfleet_engine_text.proofs.Reports.{line_more}
use Rattle.buckfleet_engine_text.proofs.report.put_row.Goals as goal

pub loop-column-preserved : goal.loop-column-preserved
loop-column-preserved c =
    line_more
    (λ column. class_line c.args.ending.now c.args.assortment.now
    (record { assortment = c.args.first.assortment; row = c.args.first.row; column = column }))
    c.loop-column.column c.args.out.now.items c.loop-column.out.items c.put_class.new.out.items c.loop-column.invariant
    c.in_ok-put_class.ensures

-- The postings and the total are the same, and the lines between them differ.
use Rattle.std.proofs.Common.{rules, ◌≡◌}
use Rattle.buckfleet_engine_text.specs.Report.{IsReport}
use Rattle.wrong_engine.proofs.Unlike.{unlike_middle}
use Rattle.wrong_engine.proofs.reports.class_line_with_the_opening_price.Goals as goal

pub prove-unreachable-requires : goal.prove-unreachable-requires
prove-unreachable-requires c =
    let same : c.in-Ok.right.items ≡ c.args.wrong.now = search rules in
    let report : IsReport c.args.closed.now.history c.in-Ok.right.items = c.in-Ok.ensures in
    unlike_middle _ _ _ _ _ _ report.text_is (c.requires.wrong report.counts report.are_counts)
    (c.requires.differ report.counts report.are_counts) same

-- The postings and the classes are the same, and the total differs.
use Rattle.std.proofs.Common.{rules, ◌≡◌}
use Rattle.buckfleet_engine_text.specs.Report.{IsReport}
use Rattle.wrong_engine.proofs.Unlike.{unlike_end}
use Rattle.wrong_engine.proofs.reports.totals_count_demands.Goals as goal

pub prove-unreachable-requires : goal.prove-unreachable-requires
prove-unreachable-requires c =
    let same : c.in-Ok.right.items ≡ c.args.wrong.now = search rules in
    let report : IsReport c.args.closed.now.history c.in-Ok.right.items = c.in-Ok.ensures in
    unlike_end _ _ _ _ _ _ report.text_is (c.requires.wrong report.counts report.are_counts) c.requires.differ same

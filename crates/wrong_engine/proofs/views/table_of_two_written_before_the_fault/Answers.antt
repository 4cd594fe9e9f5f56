use Rattle.std.proofs.Common.{rules, ◌≡◌, ◌∙◌, [], true, sym}
use Rattle.buck_book_postings.proofs.Ends.{true_false}
use Rattle.wrong_engine.proofs.Several.{refused_unwritten}
use Rattle.wrong_engine.proofs.views.table_of_two_written_before_the_fault.Goals as goal

pub prove-unreachable-requires : goal.prove-unreachable-requires
prove-unreachable-requires g c =
    let runs = c.serve_view-outcome.ensures in
    let shows = rw c.new-output.ensures.items at runs.runs in
    let none : c.serve_view-outcome.new.writer.items ≡ [] =
    refused_unwritten _ _ _ runs.opened _ _ _ c.in-Some.ensures.shown shows
    (sym c.conclude.ensures.status ∙ c.if-conclude-eq4.true) in
    let is_empty : c.is_empty-is_unwritten.result ≡ true = search rules in
    true_false (sym is_empty ∙ c.if-prove.true)

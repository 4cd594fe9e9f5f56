use Rattle.std.proofs.Common.{refl, ap, ◌∙◌}
use Rattle.buck_book_postings.specs.History.{HistoryParts}
use Rattle.buck_book_postings.proofs.Handed.{history_same, prices_are}
use Rattle.buckfleet_trial_sweep.proofs.cutting.journal_of.Goals as goal

pub returns-clause-history : goal.returns-clause-history
returns-clause-history g c =
    let same = c.into_parts-parts.ensures.history in
    history_same c.args.book.history _ _ _ refl
    (c.in_ok-sheets.ensures ∙ prices_are (λ a. a.value) _ 0 _ _ c.sheets.ensures.sheets
    ∙ ap (λ (h : HistoryParts). h.sheets) same)
    (c.into_entries.ensures ∙ ap (λ (h : HistoryParts). h.postings) same)

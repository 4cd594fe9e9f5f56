use Rattle.std.proofs.Common.{refl, ◌∙◌}
use Rattle.buck_book_postings.proofs.Handed.{history_same, prices_are}
use Rattle.buckfleet_trial_owned.proofs.owned.journal_of.Goals as goal

pub returns-clause-history : goal.returns-clause-history
returns-clause-history c =
    history_same c.args.parts _ _ _ refl
    (c.in_ok-sheets.ensures ∙ prices_are (λ a. a.value) _ 0 _ _ c.sheets.ensures.sheets) c.into_entries.ensures

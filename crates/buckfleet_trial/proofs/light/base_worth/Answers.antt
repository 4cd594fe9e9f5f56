use Rattle.std.proofs.Common.{◌≡◌, List, Some, length, refl, rules, subst}
use Rattle.std.specs.Prelude.{slice_get}
use Rattle.std.proofs.lemmas.Option.{slice_get_read}
use Rattle.buck_book_postings.specs.declared.posting.Posting.{Posting}
use Rattle.buck_page_figures.specs.Figures.{base_sheet}
use Rattle.buckfleet_trial.proofs.Lights.{lawful_under}
use Rattle.buckfleet_trial.proofs.light.base_worth.Goals as goal

pub posting_worth-requires : goal.posting_worth-requires
posting_worth-requires c =
    let same : c.in_ok-base.base ≡ base_sheet c.args.parts.now.instruction = search rules in
    lawful_under c.args.parts.now c.in_ok-base.base c.loop-posting.posting-index c.posting-item.result
    c.entries-posting-items.ensures.lawful same
    (subst (λ (l : List Posting). slice_get l c.loop-posting.posting-index ≡ Some c.posting-item.result)
    c.entries-posting-items.ensures.postings
    (slice_get_read c.entries-posting-items.result.now (length c.entries-posting-items.result.now)
    c.loop-posting.posting-index c.posting-item.result refl c.loop-posting-test.true c.posting-item.is))

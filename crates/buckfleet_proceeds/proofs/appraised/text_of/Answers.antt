use Rattle.std.proofs.Common.{◌≡◌, List, subst, rules}
use Rattle.buck_book_journal.specs.Journal.{JournalParts}
use Rattle.buck_page_figures.specs.Journals.{postings_of}
use Rattle.buckfleet_proceeds.specs.Appraisal.{IsAppraisal}
use Rattle.buckfleet_proceeds.specs.Text.{appraisal_text}
use Rattle.buckfleet_proceeds.proofs.appraised.text_of.Goals as goal

pub returns : goal.returns
returns c =
    let js : c.as_slice.result.now ≡ c.args.several.now.journals.items = search rules in
    let text : c.in_ok-text.text.items
    ≡ appraisal_text c.args.several.now.instruction.value c.in_ok-appraisal.appraisal =
    search rules in (
      c.in_ok-appraisal.appraisal,
      subst (λ (l : List JournalParts). IsAppraisal c.args.own (postings_of l) c.in_ok-appraisal.appraisal) js
          c.in_ok-appraisal.ensures.appraisal,
      text,
    )

use Rattle.std.proofs.Common.{◌∙◌, [], ◌∷◌, ◌++◌, ap, refl, subst}
use Rattle.buck_page_figures.specs.Journals.{postings_of}
use Rattle.buckfleet_proceeds.specs.Appraisal.{IsAppraisal}
use Rattle.buckfleet_trial_owned.proofs.Owning.{one_is}
use Rattle.buckfleet_trial_owned.proofs.owned.paid_for.Goals as goal

pub returns : goal.returns
returns c =
    let one = c.as_slice.ensures.value ∙ c.in_ok-push.ensures.items
    ∙ ap (λ l. l ++ (c.in_ok-journal_of.field-0 ∷ [])) c.new-journals.ensures.items in
    record {
      appraisal = c.in_ok-appraisal.appraisal;
      is_appraisal =
          subst (λ ps. IsAppraisal c.args.own.now ps c.in_ok-appraisal.appraisal)
          (one_is c.args.parts c.in_ok-journal_of.field-0 c.as_slice.result.now one c.in_ok-journal_of.ensures.history)
          (subst (λ own. IsAppraisal own (postings_of c.as_slice.result.now) c.in_ok-appraisal.appraisal) c.in_ok-copy.ensures
          c.in_ok-appraisal.ensures.appraisal);
      worth = refl;
      best = refl;
      unbought = refl;
    }

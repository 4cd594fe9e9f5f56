use Rattle.std.proofs.Common.{◌≡◌, List, Some, length, refl, subst}
use Rattle.std.specs.Prelude.{slice_get}
use Rattle.std.proofs.lemmas.Option.{slice_get_read}
use Rattle.buck_book_postings.specs.declared.posting.Posting.{Posting}
use Rattle.buckfleet_trial_tune.proofs.Tuned.{version_shown}
use Rattle.buckfleet_trial_tune.proofs.tune.price_sum.Goals as goal

pub price_for-requires : goal.price_for-requires
price_for-requires c =
    version_shown c.args.parts.now c.loop-posting.posting-index c.posting-item.result
    c.entries-posting-items.ensures.lawful
    (subst (λ (l : List Posting). slice_get l c.loop-posting.posting-index ≡ Some c.posting-item.result)
    c.entries-posting-items.ensures.postings
    (slice_get_read c.entries-posting-items.result.now (length c.entries-posting-items.result.now)
    c.loop-posting.posting-index c.posting-item.result refl c.loop-posting-test.true c.posting-item.is))

use Rattle.std.proofs.Common.{◌≡◌, ◌*◌, ◌^◌, ◌≤◌, slice_index, sum_by, take}
use Rattle.buck_book_postings.specs.History.{prices_at}
use Rattle.buck_book_postings.specs.Posting.{planned_version}
use Rattle.buckfleet_trial_tune.proofs.tune.price_sum.Given as goal

abbrev pub invariant-loop-posting : goal.invariant-loop-posting
invariant-loop-posting l = record {
  sum : l.all ≡ sum_by (λ x. slice_index (prices_at l.parts.sheets (planned_version x)) l.class)
      (take l.posting-index l.parts.postings);
  low : l.all ≤ l.posting-index * 2 ^ 32;
}

use Rattle.std.proofs.Common.{refl}
use Rattle.buck_book_postings.specs.Posting.{opening_targets}
use Rattle.buck_book_postings.proofs.Wanted.{opening_valid}
use Rattle.buckfleet_trial.proofs.ReadLemmas.{valid_wanted}
use Rattle.buckfleet_trial_wishes.proofs.wishes.targets_of.Goals as goal

pub returns-in_err-extend_from_slice-clause-valid : goal.returns-in_err-extend_from_slice-clause-valid
returns-in_err-extend_from_slice-clause-valid c =
    valid_wanted c.args.instruction.now (opening_targets c.args.instruction.now)
    (opening_targets c.args.instruction.now) refl
    (opening_valid c.args.instruction.now c.assortments-assortment-items.ensures.valid)

pub returns-clause-valid : goal.returns-clause-valid
returns-clause-valid c =
    valid_wanted c.args.instruction.now (opening_targets c.args.instruction.now)
    (opening_targets c.args.instruction.now) refl
    (opening_valid c.args.instruction.now c.assortments-assortment-items.ensures.valid)

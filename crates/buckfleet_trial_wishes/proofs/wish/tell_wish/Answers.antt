use Rattle.std.proofs.Common.{◌≡◌, ◌∙◌, Some, ap, arith, refl, rules, sym}
use Rattle.buck_apt_instruction.specs.Instruction.{classes}
use Rattle.buck_apt_instruction.specs.Wanted.{with_targets}
use Rattle.buck_book_postings.specs.Posting.{opening_targets}
use Rattle.buckfleet_trial_wishes.specs.Wishes.{IsMoved}
use Rattle.buckfleet_trial_wishes.specs.inner.Asking.{IsRunBy}
use Rattle.buckfleet_trial.proofs.Each.{zip_length}
use Rattle.buckfleet_trial_wishes.proofs.Targets.{same_classes}
use Rattle.buckfleet_trial_wishes.proofs.Wished.{told_is}
use Rattle.buckfleet_trial_wishes.proofs.wish.tell_wish.Goals as goal

pub runs-requires-clause-classes : goal.runs-requires-clause-classes
runs-requires-clause-classes c =
    let own : c.in_ok-instruction.instruction.value
    ≡ with_targets c.as_slice-moved.result.now c.args.asking.now.instruction.value = search rules in
    ap classes own ∙ same_classes c.args.asking.now.instruction.value c.as_slice-moved.result.now

pub worth_of-requires : goal.worth_of-requires
worth_of-requires c =
    let long =
    zip_length (λ start run. IsRunBy c.args.asking.now c.in_ok-instruction.instruction.value (Some start) run)
    c.args.asking.now.starts.items c.in_ok-runs.runs.drawn.items c.in_ok-runs.ensures.ok.drawn in
    omega (arith, long, c.requires.asking.number)

pub line_of-requires-clause-same : goal.line_of-requires-clause-same
line_of-requires-clause-same c =
    zip_length (λ start run. IsRunBy c.args.asking.now c.in_ok-instruction.instruction.value (Some start) run)
    c.args.asking.now.starts.items c.in_ok-runs.runs.drawn.items c.in_ok-runs.ensures.ok.drawn ∙ sym c.requires.whole

pub returns-clause-ok : goal.returns-clause-ok
returns-clause-ok c =
    let own : c.in_ok-instruction.instruction.value
    ≡ with_targets c.as_slice-moved.result.now c.args.asking.now.instruction.value = search rules in
    let moved : IsMoved c.args.asking.now.instruction.value (opening_targets c.args.asking.now.instruction.value)
    c.args.asking.now.unsteered.items c.args.wish.assortment c.args.wish.class c.as_slice-moved.result.now =
    search rules in
    told_is c.args.asking.now c.in_ok-instruction.instruction.value c.args.whole.now c.in_ok-runs.runs c.args.wish
    c.as_slice-moved.result.now _ c.requires.wish moved own c.in_ok-runs.ensures.ok refl c.worth_of.ensures
    c.in_ok-line_of.ensures

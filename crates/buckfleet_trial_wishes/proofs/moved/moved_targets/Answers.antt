use Rattle.std.proofs.Common.{◌<◌, ◌≤◌, ◌∙◌, length, ap, arith, subst, sym}
use Rattle.std.proofs.lemmas.Option.{same_Some}
use Rattle.buck_apt_instruction.specs.Instruction.{AssortmentParts, classes_of}
use Rattle.buckfleet_trial_wishes.proofs.Targets.{all_moved, kept_more, moved_more, still_wanted}
use Rattle.buckfleet_trial_wishes.proofs.moved.moved_targets.Goals as goal
use Rattle.buckfleet_trial_wishes.proofs.moved.moved_targets.Goals.{then-place-at+in_ok-put_moved, else-place-at+in_ok-extend_from_slice}

pub loop-place-preserved : goal.loop-place-preserved
loop-place-preserved c =
    let i = c.args.instruction.now in
    let ts = c.args.targets.now in
    let us = c.args.unsteered.now in
    let asked = c.of-asked.result in
    let lt : c.loop-place.place < length i.assortments =
    omega (arith, c.loop-place-test.true, ap length c.assortments-place-end.ensures.items) in
    elim c.if-place-at.branch [
      | then-place-at+in_ok-put_moved w ↦
          moved_more i ts us c.args.at c.args.class c.loop-place.place c.loop-place.moved.items
          c.if-place-at.moved.items asked.targets.now asked.unsteered.now lt c.requires.targets w.if-place-at.true
          c.of-asked.ensures.targets c.of-asked.ensures.unsteered
          (ap (λ v. v.items) w.moved-is ∙ w.in_ok-put_moved.ensures) c.loop-place.invariant
      | else-place-at+in_ok-extend_from_slice w ↦
          kept_more i ts us c.args.at c.args.class c.loop-place.place c.loop-place.moved.items c.if-place-at.moved.items
          asked.targets.now lt c.requires.targets w.if-place-at.false c.of-asked.ensures.targets
          (ap (λ v. v.items) w.moved-is ∙ w.in_ok-extend_from_slice.ensures.items) c.loop-place.invariant
    ]

pub returns-clause-moved : goal.returns-clause-moved
returns-clause-moved c =
    let le : length c.args.instruction.now.assortments ≤ c.loop-place.place =
    omega (arith, c.loop-place-test.false, ap length c.assortments-place-end.ensures.items) in
    all_moved c.args.instruction.now c.args.targets.now c.args.unsteered.now c.args.at c.args.class c.loop-place.place
    c.loop-place.moved.items le c.requires.targets c.loop-place.invariant

pub returns-clause-valid : goal.returns-clause-valid
returns-clause-valid c =
    let le : length c.args.instruction.now.assortments ≤ c.loop-place.place =
    omega (arith, c.loop-place-test.false, ap length c.assortments-place-end.ensures.items) in
    let wish = c.requires.wish in
    still_wanted c.args.instruction.now c.args.targets.now c.args.unsteered.now c.args.at c.args.class
    c.loop-place.place c.loop-place.moved.items le c.requires.targets
    (λ a there. subst (λ (x : AssortmentParts). c.args.class < classes_of x)
    (same_Some wish.assortment a (sym wish.exists ∙ there)) wish.within) c.loop-place.invariant

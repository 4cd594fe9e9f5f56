use Rattle.std.proofs.Common.{◌≡◌, ◌+◌, ◌*◌, arith, length, subst, sym}
use Rattle.buckfleet_trial_wishes.specs.inner.Asking.{AreBelow}
use Rattle.buckfleet_trial_wishes.proofs.Wished.{all_below, none_more, one_below}
use Rattle.buckfleet_trial_wishes.proofs.wishes.add_wishes.Goals as goal
use Rattle.buckfleet_trial_wishes.proofs.wishes.add_wishes.Goals.{then-is_wish+in_ok-push, else-is_wish}

pub loop-class-preserved : goal.loop-class-preserved
loop-class-preserved c =
    let i = c.args.asking.now.instruction.value in
    let us = c.args.asking.now.unsteered.items in
    let asked = c.asked-asked.result in
    let next = c.args.at * 1024 + (c.loop-class.class + 1) in
    elim c.if-is_wish.branch [
      | then-is_wish+in_ok-push w ↦
          subst (λ v. AreBelow i us next v.items) (sym w.wishes-is)
          (one_below i us c.args.at asked.targets.now asked.unsteered.now c.asked-asked.ensures.targets
          c.asked-asked.ensures.unsteered c.requires.valid c.requires.asking.wanted c.requires.exists c.loop-class.class
          c.loop-class.wishes.items _ c.loop-class-test.true (c.is_wish.ensures.0 w.if-is_wish.true)
          w.in_ok-push.ensures.items c.loop-class.invariant)
      | else-is_wish w ↦
          subst (λ v. AreBelow i us next v.items) (sym w.wishes-is)
          (none_more i us c.args.at asked.targets.now asked.unsteered.now c.asked-asked.ensures.targets
          c.asked-asked.ensures.unsteered c.requires.valid c.requires.asking.wanted c.requires.exists c.loop-class.class
          c.loop-class.wishes.items c.loop-class-test.true
          (λ is. absurd (cc (c.is_wish.ensures.1 is, w.if-is_wish.false))) c.loop-class.invariant)
    ]

pub returns : goal.returns
returns c =
    let asked = c.asked-asked.result in
    let all : c.loop-class.class ≡ length asked.targets.now =
    omega (arith, c.loop-class.auto.class-end, c.loop-class-test.false) in
    all_below c.args.asking.now.instruction.value c.args.asking.now.unsteered.items c.args.at asked.targets.now
    asked.unsteered.now c.asked-asked.ensures.targets c.asked-asked.ensures.unsteered c.requires.valid
    c.requires.asking.wanted c.requires.exists c.loop-class.class c.loop-class.wishes.items all c.loop-class.invariant

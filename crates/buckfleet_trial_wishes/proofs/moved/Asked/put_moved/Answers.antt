use Rattle.std.proofs.Common.{◌≡◌, ◌≢◌, ◌*◌, ◌<◌, ℕ, List, length, get_or, sym, ◌∙◌, arith}
use Rattle.buckfleet_trial_wishes.specs.Wishes.{factor, moved_part}
use Rattle.buckfleet_trial_wishes.proofs.MovedLemmas.{moved_elsewhere, moved_here, moved_length, moved_low, moved_next}
use Rattle.buckfleet_trial_wishes.proofs.moved.Asked.put_moved.Goals as goal
use Rattle.buckfleet_trial_wishes.proofs.moved.Asked.put_moved.Goals.{then-at-class, else-at-class}

other_is : (ts us : List ℕ) (class i x k t : ℕ) → i < length ts → i ≢ class → x ≡ k * t → k ≡ factor ts us class
    → t ≡ get_or ts i 0 → x ≡ get_or (moved_part ts us class) i 0
other_is ts us class i x k t lt other is times target =
    is ∙ (λ s. times s * target s) ∙ sym (moved_elsewhere ts us class i lt other)

pub overflow_cast-target : goal.overflow_cast-target
overflow_cast-target c =
    let ts = c.args.self.now.targets.now in
    let us = c.args.self.now.unsteered.now in
    let i = c.loop-at.at in
    let low = moved_low ts us c.args.class c.requires.low i 0
    (omega (arith, c.loop-at-test.true, moved_length ts us c.args.class)) in
    let is : c.if-at-class.target ≡ get_or (moved_part ts us c.args.class) i 0 =
    elim c.if-at-class.branch [
      | then-at-class w ↦
          w.target-is ∙ c.moved-moved.ensures
          ∙ sym (moved_here ts us c.args.class i c.loop-at-test.true w.if-at-class.true)
      | else-at-class w ↦
          other_is ts us c.args.class i _ _ _ c.loop-at-test.true w.if-at-class.false w.target-is
          c.factor-factor.ensures.factor w.from.ensures
    ] in
    omega (arith, low, is)

pub loop-at-preserved : goal.loop-at-preserved
loop-at-preserved c =
    let ts = c.args.self.now.targets.now in
    let us = c.args.self.now.unsteered.now in
    let i = c.loop-at.at in
    let is : c.if-at-class.target ≡ get_or (moved_part ts us c.args.class) i 0 =
    elim c.if-at-class.branch [
      | then-at-class w ↦
          w.target-is ∙ c.moved-moved.ensures
          ∙ sym (moved_here ts us c.args.class i c.loop-at-test.true w.if-at-class.true)
      | else-at-class w ↦
          other_is ts us c.args.class i _ _ _ c.loop-at-test.true w.if-at-class.false w.target-is
          c.factor-factor.ensures.factor w.from.ensures
    ] in
    moved_next ts us c.args.class i c.if-at-class.target c.args.out.now.items c.loop-at.out.items c.push.new.self.items
    c.loop-at-test.true is c.loop-at.invariant c.in_ok-push.ensures.items

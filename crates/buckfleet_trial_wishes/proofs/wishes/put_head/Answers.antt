use Rattle.std.proofs.Common.{◌≡◌, ◌<◌, ◌++◌, ◌∙◌, ap, append-nil, arith, length, sym}
use Rattle.std.proofs.lemmas.Grind.{common_steps}
use Rattle.buckfleet_trial_wishes.specs.WishLine.{gains_head, wishes_head}
use Rattle.buckfleet_trial_wishes.proofs.Gains.{five_put, no_ends, some_ends}
use Rattle.buckfleet_trial_wishes.proofs.wishes.put_head.Goals as goal

pub returns-then-is_empty : goal.returns-then-is_empty
unfolding wishes_head
returns-then-is_empty c =
    let none : length c.args.starts.now ≡ 0 = grind (arith, common_steps, c.if-is_empty.ensures) in
    let three = c.extend_from_slice-3.new.self.items in
    five_put c.args.out.now.items c.extend_from_slice.new.self.items c.extend_from_slice-2.new.self.items three three
    c.push.new.self.items _ _ _ (gains_head c.args.starts.now) _ c.in_ok-extend_from_slice.ensures.items
    c.in_ok-extend_from_slice-2.ensures.items c.in_ok-extend_from_slice-3.ensures.items
    (sym (append-nil three) ∙ ap (λ l. three ++ l) (sym (no_ends c.args.starts.now none).0))
    c.in_ok-push.ensures.items

pub returns : goal.returns
unfolding wishes_head
returns c =
    let some : 0 < length c.args.starts.now = grind (arith, common_steps, c.if-is_empty.ensures) in
    let three = c.extend_from_slice-3.new.self.items in
    five_put c.args.out.now.items c.extend_from_slice.new.self.items c.extend_from_slice-2.new.self.items three
    c.extend_from_slice-4.new.self.items c.push-2.new.self.items _ _ _ (gains_head c.args.starts.now) _
    c.in_ok-extend_from_slice.ensures.items c.in_ok-extend_from_slice-2.ensures.items
    c.in_ok-extend_from_slice-3.ensures.items
    (c.in_ok-extend_from_slice-4.ensures.items ∙ ap (λ l. three ++ l) (sym (some_ends c.args.starts.now some).0))
    c.in_ok-push-2.ensures.items

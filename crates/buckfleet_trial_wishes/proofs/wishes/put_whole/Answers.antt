use Rattle.std.proofs.Common.{◌≡◌, ◌<◌, ◌++◌, ◌∙◌, ap, arith, length, sym}
use Rattle.std.proofs.lemmas.Grind.{common_steps}
use Rattle.buckfleet_trial_wishes.specs.WishLine.{empty_end, whole_line}
use Rattle.buckfleet_trial_wishes.proofs.Gains.{five_put, no_ends, some_ends}
use Rattle.buckfleet_trial_wishes.proofs.wishes.put_whole.Goals as goal

pub returns-then-is_empty : goal.returns-then-is_empty
unfolding whole_line
returns-then-is_empty c =
    let none : length c.args.starts.now ≡ 0 = grind (arith, common_steps, c.if-is_empty.ensures) in
    let four = c.put_degree.new.out.items in
    five_put c.args.out.now.items c.extend_from_slice.new.self.items c.put_worth.new.out.items
    c.extend_from_slice-2.new.self.items four c.extend_from_slice-then-is_empty.new.self.items _ _ _ _
    (empty_end c.args.starts.now) c.in_ok-extend_from_slice.ensures.items c.in_ok-put_worth.ensures
    c.in_ok-extend_from_slice-2.ensures.items c.in_ok-put_degree.ensures
    (c.in_ok-extend_from_slice-3.ensures.items ∙ ap (λ l. four ++ l) (sym (no_ends c.args.starts.now none).1))

pub returns : goal.returns
unfolding whole_line
returns c =
    let some : 0 < length c.args.starts.now = grind (arith, common_steps, c.if-is_empty.ensures) in
    let four = c.put_degree.new.out.items in
    five_put c.args.out.now.items c.extend_from_slice.new.self.items c.put_worth.new.out.items
    c.extend_from_slice-2.new.self.items four c.extend_from_slice-3.new.self.items _ _ _ _
    (empty_end c.args.starts.now) c.in_ok-extend_from_slice.ensures.items c.in_ok-put_worth.ensures
    c.in_ok-extend_from_slice-2.ensures.items c.in_ok-put_degree.ensures
    (c.in_ok-extend_from_slice-4.ensures.items ∙ ap (λ l. four ++ l) (sym (some_ends c.args.starts.now some).1))

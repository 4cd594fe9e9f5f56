use Rattle.std.proofs.Common.{◌≡◌, ◌++◌, ◌∙◌, ap, append_assoc}
use Rattle.std.specs.Prelude.{codes}
use Rattle.buckfleet_trial_owned.proofs.owned.put_behind.Goals as goal

pub returns : goal.returns
returns c = λ front ends.
    let opened : c.open_line.result.now ≡ front = c.open_line.ensures front ends in
    c.in_ok-extend_from_slice-3.ensures.items
    ∙ ap (λ l. l ++ codes "\n")
    (c.in_ok-extend_from_slice-2.ensures.items
    ∙ ap (λ l. l ++ c.args.tail.now)
    (c.in_ok-extend_from_slice.ensures.items ∙ ap (λ l. c.args.out.now.items ++ l) opened))
    ∙ simp append_assoc

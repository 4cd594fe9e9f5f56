use Rattle.std.proofs.Common.{◌≡◌, ◌++◌, ℕ, List, Some, of_calls, rules, subst}
use Rattle.std.specs.List.{flat_map}
use Rattle.std.proofs.lemmas.Fn.{always_returns_same}
use Rattle.buckfleet_trial_wishes.specs.declared.wish.Told.{Told}
use Rattle.buckfleet_trial_wishes.specs.WishLine.{whole_line, wishes_head}
use Rattle.buckfleet_trial_wishes.specs.inner.Asking.{AreTold, IsRunBy}
use Rattle.buckfleet_trial.proofs.Each.{zip_length}
use Rattle.buckfleet_trial_wishes.proofs.Ranked.{above, above_ranks}
use Rattle.buckfleet_trial_wishes.proofs.Wished.{are_wishes}
use Rattle.buckfleet_trial_wishes.proofs.wishes.table_of.Goals as goal

pub told_in_parts-requires-clause-whole : goal.told_in_parts-requires-clause-whole
told_in_parts-requires-clause-whole g c = λ κs lives.
    zip_length (λ start run. IsRunBy c.args.asking.now c.args.asking.now.instruction.value (Some start) run)
    c.args.asking.now.starts.items c.in_ok-whole.whole.drawn.items c.in_ok-whole.ensures.ok.drawn

pub returns-clause-ok : goal.returns-clause-ok
returns-clause-ok g c =
    let whole = c.in_ok-whole.whole.own in
    let made = c.in_ok-text_of.field-0 in
    let lines : List Told → List ℕ = flat_map (λ t. t.line.items) in
    let compares = always_returns_same _ _ _ (λ a r f k. search (rules, of_calls)) in
    let lt = above (λ t. t.worth) in
    let ranks = above_ranks (λ t. t.worth) in
    let text =
    subst (λ s. made.items ≡ wishes_head s ++ (whole_line s whole ++ lines c.sort_by.new.self.items))
    c.as_slice-2.ensures.value
    (subst (λ l. made.items ≡ wishes_head c.as_slice-2.result.now
    ++ (whole_line c.as_slice-2.result.now whole ++ lines l))
    c.as_slice-3.ensures.value c.in_ok-text_of.ensures) in
    are_wishes c.args.asking.now c.in_ok-whole.whole c.in_ok-wishes.wishes.items c.in_ok-told.told.items
    c.sort_by.new.self.items c.in_ok-text_of.field-0.items c.requires.asking c.wishes_of.ensures.valid
    c.in_ok-whole.ensures.ok c.in_ok-wishes.ensures.all
    (subst (λ l. AreTold c.args.asking.now c.in_ok-whole.whole l c.in_ok-told.told.items) c.as_slice.ensures.value
    c.in_ok-told.ensures.ok) c.sort_by.ensures.permutation (c.in_ok-sort_by.ensures.sorted lt ranks compares)
    (c.sort_by.ensures.stable lt ranks compares) text

-- The instruction and the first journal open and the second doesn't, so the line is that of file 2.
use Rattle.std.proofs.Common.{rules, ◌≡◌, ◌∙◌, refl}
use Rattle.std.proofs.lemmas.List.{length-map}
use Rattle.wrong_engine.specs.declared.views.Firsts.{Firsts}
use Rattle.wrong_engine.proofs.Several.{not_of_the_first}
use Rattle.wrong_engine.proofs.views.second_journal_missing_told_as_the_first.Goals as goal

pub prove-unreachable-requires : goal.prove-unreachable-requires
prove-unreachable-requires g c =
    let runs = c.serve_view-outcome.ensures in
    let told = rw c.new-errors.ensures.items at c.conclude.ensures.told in
    let same : c.conclude.new.errors.items ≡ c.as_slice-wrong.result.now = search rules in
    not_of_the_first _ (λ (x : Firsts). x.left) (λ x y name file is. is.0) (λ x y name file is. is.1) _ _ _ _ _ _ _ runs.opened _ _ _ _
    refl (length-map _ _ ∙ c.in-Some.ensures.names) runs.answers runs.runs told (same ∙ c.as_slice-wrong.ensures)

-- The first file opens and the second doesn't, so the line is that of file 1.
use Rattle.std.proofs.Common.{rules, ◌≡◌, ◌∙◌, refl}
use Rattle.wrong_engine.proofs.Decimals.{not_of_file_0}
use Rattle.wrong_engine.proofs.Missing.{second_missing}
use Rattle.wrong_engine.proofs.opened.open_both_missing_stems_as_file_0.Goals as goal

pub prove-unreachable-requires : goal.prove-unreachable-requires
prove-unreachable-requires g c =
    let runs = c.serve_buck-outcome.ensures in
    let is = second_missing _ _ _ _ _ _ _ _ _ runs.opened (λ x o. o.2 refl refl) (λ x y f g o p. absurd (search rules))
    runs.answers runs.runs in
    let told = rw (is, c.new-errors.ensures.items) at c.conclude.ensures.told in
    let same : c.conclude.new.errors.items ≡ c.as_slice-wrong.result.now = search rules in
    not_of_file_0 _ told (same ∙ c.as_slice-wrong.ensures)

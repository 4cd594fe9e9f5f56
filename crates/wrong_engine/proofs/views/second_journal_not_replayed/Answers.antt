use Rattle.std.proofs.Common.{◌∙◌, [], ◌∷◌, List, ℕ, Bor, refl, sym}
use Rattle.std.proofs.lemmas.List.{length-map}
use Rattle.wrong_engine.specs.declared.views.Three.{Three}
use Rattle.wrong_engine.proofs.Lent.{second_unlawful_unshown}
use Rattle.wrong_engine.proofs.views.second_journal_not_replayed.Goals as goal

pub prove-unreachable-requires : goal.prove-unreachable-requires
prove-unreachable-requires g c =
    let runs = c.serve_view-outcome.ensures in
    let shows = rw c.in-Some.ensures.settings at runs.runs in
    second_unlawful_unshown _ (λ (x : Three). x.given) (λ (x : Three). x.apt.now ∷ x.first.now ∷ x.second.now ∷ [])
    (λ (f : Bor (List ℕ)). f.now) (λ x y name f is. is) _ _ _ _ _ _ runs.opened _ _ _ _ _ _ c.in-Some.ensures.shown
    (length-map _ _ ∙ c.in-Some.ensures.names) refl refl c.requires.unlawful runs.answers shows
    (sym c.conclude-right.ensures.status ∙ c.if-prove.true)

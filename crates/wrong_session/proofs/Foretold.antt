-- A stem is cut as its preview shows it.
use Rattle.std.proofs.Common.{◌≡◌, ℕ, sym, ap, ◌∙◌, subst, rules}
use Rattle.buck_stem_shape.specs.Stem.{StemParts}
use Rattle.buck_value.specs.Sheet.{SheetParts}
use Rattle.buck_dp.specs.Best.{IsFirstBest, cutting_worth}
use Rattle.buck_dp.proofs.Lists.{only_one}
use Rattle.buck_book_postings.specs.Entry.{EntryParts}
use Rattle.buck_book_postings.specs.Plan.{PlanParts, IsPlan}
use Rattle.buck_book_postings.specs.History.{HistoryParts}
use Rattle.buck_book_postings.specs.Book.{entry_of}
use Rattle.buck_book_cutter.specs.Cut.{OfPrices, HasCut}
use Rattle.buck_c_session.specs.Looked.{IsPreview}

same_parts : (p q : PlanParts) → p.stem ≡ q.stem → p.sheet ≡ q.sheet → p.logs ≡ q.logs → p.worth ≡ q.worth → p ≡ q
same_parts p q stem sheet logs worth = search rules

-- one plan alone is that of a stem under a sheet
one_plan : (p q : PlanParts) → IsPlan p → IsPlan q → p.stem ≡ q.stem → p.sheet ≡ q.sheet → p ≡ q
one_plan p q x y stem sheet =
    let first : IsFirstBest q.sheet q.stem p.logs =
    subst (λ (s : SheetParts). IsFirstBest s q.stem p.logs) sheet
    (subst (λ (t : StemParts). IsFirstBest p.sheet t p.logs) stem x.first_best) in
    let logs : p.logs ≡ q.logs = only_one q.sheet q.stem p.logs q.logs first y.first_best in
    same_parts p q stem sheet logs
    (x.worth_is ∙ ap (λ (s : SheetParts). cutting_worth s p.stem p.logs) sheet
    ∙ ap (λ (t : StemParts). cutting_worth q.sheet t p.logs) stem
    ∙ ap (λ gs. cutting_worth q.sheet q.stem gs) logs ∙ sym y.worth_is)

pub cut_as_shown : (P : OfPrices) (harvester : ℕ) (stem : StemParts) (before after : HistoryParts) (shown cut : EntryParts)
    → IsPreview before harvester stem shown → HasCut P harvester stem before after cut → shown ≡ cut
cut_as_shown P harvester stem before after shown cut x y =
    x.entry_is
    ∙ ap (λ p. entry_of before harvester p) (one_plan x.plan y.plan x.planned.is_plan y.is_plan
    (x.planned.same_stem ∙ sym y.same_stem) (x.planned.sheet_in_force ∙ sym y.sheet_in_force))
    ∙ sym y.entry_is

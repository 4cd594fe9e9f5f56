-- The lines of assortments, one after the other.
use Rattle.std.proofs.Common.{◌≡◌, ◌∙◌, ℕ, ◌+◌, ◌<◌, ◌≤◌, List, [], ◌∷◌, ◌++◌, ap, drop, get_or, length, sym}
use Rattle.std.proofs.lemmas.List.{drop_all, drop_more}
use Rattle.buck_apt_instruction.specs.Instruction.{AssortmentParts}
use Rattle.buckfleet_proceeds.specs.declared.paid.Paid.{Paid}
use Rattle.buckfleet_proceeds.specs.Text.{assortment_line, assortment_lines}

-- that of the next one
pub lines_step : (k : ℕ) (xs : List AssortmentParts) (cuts bests : List Paid) (x : AssortmentParts) (cut best : Paid)
    → k < length xs → k < length cuts → k < length bests
    → x ≡ get_or xs k x → cut ≡ get_or cuts k cut → best ≡ get_or bests k best
    → assortment_lines k (drop k xs) (drop k cuts) (drop k bests)
    ≡ assortment_line k cut best x.name
    ++ assortment_lines (k + 1) (drop (k + 1) xs) (drop (k + 1) cuts) (drop (k + 1) bests)
lines_step k xs cuts bests x cut best lt lt_cut lt_best is cut_is best_is =
    ap (λ l. assortment_lines k l (drop k cuts) (drop k bests))
    (drop_more xs k x lt ∙ ap (λ y. y ∷ drop (k + 1) xs) (sym is))
    ∙ ap (λ l. assortment_lines k (x ∷ drop (k + 1) xs) l (drop k bests))
    (drop_more cuts k cut lt_cut ∙ ap (λ y. y ∷ drop (k + 1) cuts) (sym cut_is))
    ∙ ap (λ l. assortment_lines k (x ∷ drop (k + 1) xs) (cut ∷ drop (k + 1) cuts) l)
    (drop_more bests k best lt_best ∙ ap (λ y. y ∷ drop (k + 1) bests) (sym best_is))

-- and behind the last
pub lines_end : (k : ℕ) (xs : List AssortmentParts) (cuts bests : List Paid) → length xs ≤ k
    → assortment_lines k (drop k xs) cuts bests ≡ []
lines_end k xs cuts bests le = ap (λ l. assortment_lines k l cuts bests) (drop_all k xs le)

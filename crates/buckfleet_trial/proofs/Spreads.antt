-- The cells of what draws came to.
use Rattle.std.proofs.Common.{◌≡◌, ℕ, ◌<◌, List, [], ◌∷◌, ◌++◌, length, Option, Result, Ok, Err, refl, ap, subst, ◌∙◌, arith, append_assoc}
use Rattle.std.specs.Result.{OnOk}
use Rattle.std.specs.List.{AllZip}
use Rattle.buck_page_cells.specs.declared.change.Change.{Change}
use Rattle.buck_page_cells.specs.declared.spread.Spread.{Spread}
use Rattle.buck_page_cells.specs.Cells.{spread_cells}
use Rattle.buck_page_cells.specs.Spread.{IsSpread}
use Rattle.buckfleet_trial.specs.declared.trial.Drawn.{Drawn}
use Rattle.buckfleet_trial.specs.Trial.{AreSpreads, IsFromNothing, costs_in, degrees_in}
use Rattle.buckfleet_trial.proofs.Each.{zip_length}

-- as many changes as draws
pub as_many : {A : Type 0} (xs : List A) (mapped : List (Option ℕ)) (changes slice : List (Option Change))
    → slice ≡ changes → length mapped ≡ length xs → AllZip IsFromNothing mapped changes → length slice ≡ length xs
as_many xs mapped changes slice same long all =
    ap (λ (l : List (Option Change)). length l) same ∙ zip_length IsFromNothing mapped changes all ∙ long

some_spreads : (best : ℕ) (drawn : List Drawn) (ds cs : List (Option Change)) (s t : Option Spread)
    → 0 < length drawn → AllZip IsFromNothing (degrees_in drawn) ds → AllZip IsFromNothing (costs_in best drawn) cs
    → IsSpread ds s → IsSpread cs t → AreSpreads best drawn (spread_cells s ++ spread_cells t)
some_spreads best [] ds cs s t some degrees costs is_s is_t = absurd (omega (arith, some))
some_spreads best (d ∷ more) ds cs s t some degrees costs is_s is_t = (
  spread_cells s,
  spread_cells t,
  record { changes = ds; from_nothing = degrees; spread = s; is_spread = is_s; text_is = refl },
  record { changes = cs; from_nothing = costs; spread = t; is_spread = is_t; text_is = refl },
  refl,
)

-- both spreads were put
pub put_both : {E : Type 0} (best : ℕ) (drawn : List Drawn) (ds cs d_slice c_slice : List (Option Change))
    (s t : Option Spread) (old mid new : List ℕ) (r : Result (Unit {0}) E) → 0 < length drawn
    → AllZip IsFromNothing (degrees_in drawn) ds → AllZip IsFromNothing (costs_in best drawn) cs
    → d_slice ≡ ds → c_slice ≡ cs → IsSpread d_slice s → IsSpread c_slice t
    → mid ≡ old ++ spread_cells s → OnOk r (new ≡ mid ++ spread_cells t)
    → OnOk r ((x : List ℕ) × AreSpreads best drawn x × (new ≡ old ++ x))
put_both best drawn ds cs d_slice c_slice s t old mid new (Err e) some degrees costs d_is c_is is_s is_t first put = tt
put_both best drawn ds cs d_slice c_slice s t old mid new (Ok u) some degrees costs d_is c_is is_s is_t first put = (
  spread_cells s ++ spread_cells t,
  some_spreads best drawn ds cs s t some degrees costs
      (subst (λ (l : List (Option Change)). IsSpread l s) d_is is_s)
      (subst (λ (l : List (Option Change)). IsSpread l t) c_is is_t),
  put ∙ ap (λ (l : List ℕ). l ++ spread_cells t) first ∙ append_assoc old (spread_cells s) (spread_cells t),
)

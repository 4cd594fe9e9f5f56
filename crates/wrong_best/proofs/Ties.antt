-- What the first of the best isn't.
use Rattle.std.proofs.Common.{◌≡◌, ◌≢◌, ◌<◌, ◌≤◌, inl, inr, List, [], ◌∷◌, sym, subst, arith, rules}
use Rattle.buck_stem_shape.specs.Stem.{StemParts}
use Rattle.buck_value.specs.declared.log.Log.{Log}
use Rattle.buck_value.specs.Sheet.{SheetParts}
use Rattle.buck_value.specs.Allowed.{IsAllowed, worth_of}
use Rattle.buck_dp.specs.Best.{IsAdmissible, IsBest, IsFirstBest, cutting_worth}
use Rattle.buck_dp.specs.Order.{IsBefore, IsLogBefore}

-- an allowed log alone is admissible
alone : (sheet : SheetParts) (stem : StemParts) (g : Log) → IsAllowed sheet.instruction stem g
    → IsAdmissible sheet stem (g ∷ [])
alone sheet stem g allowed = (omega arith, allowed, tt)

-- of two logs only one is before the other
not_both : (a b : Log) → IsLogBefore a b → IsLogBefore b a → ⊥
not_both a b ab ba = grind arith

differ : (early late : Log) → IsLogBefore early late → early ∷ [] ≢ late ∷ []
differ early late before same =
    let p : IsBefore (early ∷ []) (early ∷ []) = subst (λ x. IsBefore (early ∷ []) x) (sym same) (inl before) in
    elim p [ inl q ↦ not_both early early q q | inr q ↦ q.1 ]

-- a list that is worth less than an admissible one
pub not_outvalued : (sheet : SheetParts) (stem : StemParts) (logs these others : List Log)
    → IsFirstBest sheet stem logs
    → logs ≡ these
    → IsAdmissible sheet stem others
    → cutting_worth sheet stem these < cutting_worth sheet stem others → ⊥
not_outvalued sheet stem logs these others first same admissible less =
    let best : IsFirstBest sheet stem these = subst (λ x. IsFirstBest sheet stem x) same first in
    let most = best.best.none_outvalues others admissible in omega (arith, most, less)

-- the best isn't empty if a log that is worth something is allowed
pub not_empty : (sheet : SheetParts) (stem : StemParts) (logs : List Log) (g : Log)
    → IsFirstBest sheet stem logs
    → logs ≡ []
    → IsAllowed sheet.instruction stem g
    → 0 < worth_of sheet stem g → ⊥
not_empty sheet stem logs g first same allowed dear =
    not_outvalued sheet stem logs [] (g ∷ []) first same (alone sheet stem g allowed) (omega (arith, dear))

-- an allowed log is worth no more than the best cutting
pub not_worthless : (sheet : SheetParts) (stem : StemParts) (logs : List Log) (g : Log)
    → IsFirstBest sheet stem logs
    → IsAllowed sheet.instruction stem g
    → worth_of sheet stem g ≤ cutting_worth sheet stem logs
not_worthless sheet stem logs g first allowed =
    let most = first.best.none_outvalues (g ∷ []) (alone sheet stem g allowed) in omega (arith, most)

-- a list that isn't admissible
pub not_of_any_logs : (sheet : SheetParts) (stem : StemParts) (logs these : List Log)
    → IsFirstBest sheet stem logs
    → logs ≡ these
    → IsAdmissible sheet stem these
not_of_any_logs sheet stem logs these first same =
    subst (λ x. IsAdmissible sheet stem x) same first.best.admissible

-- the later of two logs that are worth the same
pub not_the_later : (sheet : SheetParts) (stem : StemParts) (logs : List Log) (early late : Log)
    → IsFirstBest sheet stem logs
    → logs ≡ late ∷ []
    → IsAllowed sheet.instruction stem early
    → worth_of sheet stem early ≡ worth_of sheet stem late
    → IsLogBefore early late → ⊥
not_the_later sheet stem logs early late some same allowed tie before =
    let first : IsFirstBest sheet stem (late ∷ []) = subst (λ x. IsFirstBest sheet stem x) same some in
    let best : IsBest sheet stem (early ∷ []) = record {
      admissible = alone sheet stem early allowed;
      none_outvalues = λ others a. (let less = first.best.none_outvalues others a in omega (arith, less, tie));
    } in
    let p : IsBefore (late ∷ []) (early ∷ []) = first.first (early ∷ []) best (differ early late before) in
    elim p [ inl q ↦ not_both early late before q | inr q ↦ q.1 ]

-- the first of the best isn't empty if a log that is worth nothing is allowed
pub not_without_a_free_log : (sheet : SheetParts) (stem : StemParts) (logs : List Log) (g : Log)
    → IsFirstBest sheet stem logs
    → logs ≡ []
    → IsAllowed sheet.instruction stem g → ⊥
not_without_a_free_log sheet stem logs g some same allowed =
    let first : IsFirstBest sheet stem [] = subst (λ x. IsFirstBest sheet stem x) same some in
    let best : IsBest sheet stem (g ∷ []) = record {
      admissible = alone sheet stem g allowed;
      none_outvalues =
          λ others a.
          (let less : cutting_worth sheet stem others ≤ 0 = first.best.none_outvalues others a in omega (arith, less));
    } in
    first.first (g ∷ []) best (search rules)

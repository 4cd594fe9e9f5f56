-- One seat of a fleet after its call: the others are as they were.
use Rattle.std.proofs.Common.{◌≡◌, ℕ, ◌<◌, inl, inr, List, length, get_or, set, length-set, sym, ap, ◌∙◌}
use Rattle.std.proofs.lemmas.Bool.{cases_eq}
use Rattle.std.proofs.lemmas.List.{get_or-set_same, get_or-set_other, get_or_default}
use Rattle.buck_fleet.specs.Seat.{SeatParts}
use Rattle.buck_fleet.specs.Crew.{IsCrew, parts_of}
use Rattle.buck_fleet.proofs.Crews.{crew_same, parts_same}

module _ (xs : List SeatParts) (k : ℕ) (s s' : SeatParts) (lt : k < length xs) (at : s ≡ get_or xs k s) where
  -- what is the same of this seat is the same of each
  each : (f : SeatParts → ℕ) → f s' ≡ f s → (i : ℕ) (d : SeatParts) → i < length xs
      → f (get_or (set xs k s') i d) ≡ f (get_or xs i d)
  each f same i d small = elim (cases_eq i k) [
    | inl here ↦
        ap (λ n. f (get_or (set xs k s') n d)) here ∙ ap f (get_or-set_same xs k s' d lt) ∙ same
        ∙ ap f (at ∙ get_or_default xs k s d lt) ∙ ap (λ n. f (get_or xs n d)) (sym here)
    | inr other ↦ ap f (get_or-set_other xs k i s' d other)
  ]

  pub crew_still : (n : ℕ) → s'.harvester ≡ s.harvester → IsCrew n xs → IsCrew n (set xs k s')
  crew_still n same crew = crew_same n xs (set xs k s') (length-set xs k s') (each (λ x. x.harvester) same) crew

  pub parts_still : s'.parts ≡ s.parts → parts_of (set xs k s') ≡ parts_of xs
  parts_still same = parts_same xs (set xs k s') (length-set xs k s') (each (λ x. x.parts) same)

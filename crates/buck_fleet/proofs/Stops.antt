-- what stopped the lowest harvester that was stopped
use Rattle.buck_fleet.proofs.Words.{◌≡◌, ℕ, ◌+◌, ◌<◌, ◌≤◌, List, arith, refl, ap, ◌∙◌, All, Option, None, Some, IfSome, slice_get-get_or, Contains, RunFault, SeatParts, IsFirstStop, MOST_SEATS}

-- the harvester of a seat that was stopped; more than any harvester if it wasn't
abbrev key : ℕ → Option RunFault → ℕ
key h None = MOST_SEATS + 1
key h (Some fault) = h

abbrev pub key_of : SeatParts → ℕ
key_of s = key s.harvester s.stopped

lower : (h g : ℕ) (a b : Option RunFault) (fault : RunFault) → a ≡ Some fault → key h a ≤ key g b → g < h → b ≡ None
lower h g a None fault is le lt = refl
lower h g a (Some other) fault is le lt = let low = rw is at le in absurd (omega arith)

pub stop_is : (seats : List SeatParts) (s : SeatParts) (stopped : Option RunFault) → s.stopped ≡ stopped
    → Contains seats s → All (λ x. key_of s ≤ key_of x) seats → IfSome stopped (IsFirstStop seats)
stop_is seats s None is there least = tt
stop_is seats s (Some fault) is (k, lt, at) least = record {
  place = k;
  seat = s;
  is_there = slice_get-get_or seats k s lt ∙ ap Some at;
  stopped = is;
  lowest = λ j d small under. lower _ _ _ _ fault is (least j d small) under;
}

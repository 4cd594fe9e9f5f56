-- seats of a new fleet, one by one
use Rattle.buck_fleet.proofs.Words.{◌≡◌, ℕ, ◌+◌, ◌<◌, if◌then◌else◌, nat_lt, nat_tests, seats_of, List, [], ◌∷◌, ◌++◌, length, get_or, arith, rules, None, All, get_or_append_left, get_or_push, length_push, sum_by_push, All-pop, Board}
use Rattle.buck_fleet.proofs.Words.{BoardSeat, IsSeatOf, seen_by, SeatParts, parts_of, IsNew, AreOpened}

-- some of the seats have their places, and the next one gets so many of the parts that are left
pub record AreSoFar (b : Board) (count : ℕ) (seats : List SeatParts) (places : List BoardSeat)
    (parts left : ℕ) : Type 0 where
  pub number : length places + length seats ≡ count
  pub some_parts : 0 < parts
  pub one_each : 0 < length seats → parts ≡ 1
  pub shared : parts + length places ≡ left + 1
  pub all_parts : left + parts_of seats ≡ 64
  pub places_of : All (IsSeatOf b) places
  pub unseen : All (λ p. seen_by p ≡ 0) places
  pub new : (i : ℕ) (d : SeatParts) → i < length seats → IsNew b i (get_or seats i d)
  pub once : (h : ℕ) → 0 < h → seats_of h seats ≡ (if nat_lt (length seats) h then 0 else 1)

counted : (h : ℕ) (seats after : List SeatParts) (s : SeatParts)
    → seats_of h seats ≡ (if nat_lt (length seats) h then 0 else 1) → 0 < h → s.harvester ≡ length seats + 1
    → after ≡ seats ++ s ∷ [] → seats_of h after ≡ (if nat_lt (length after) h then 0 else 1)
counted h seats after s was pos is more = grind (arith, sum_by_push, length_push, nat_tests)

pub one_more : (b : Board) (count : ℕ) (seats after : List SeatParts) (places others : List BoardSeat)
    (parts left left_after own : ℕ) (s : SeatParts) (h : ℕ) (p : BoardSeat)
    → AreSoFar b count seats places parts left → places ≡ others ++ p ∷ []
    → s ≡ record { harvester = h; place = p; kept = []; parts = own; stopped = None } → own ≡ parts
    → h ≡ length seats + 1 → after ≡ seats ++ s ∷ [] → left_after + parts ≡ left
    → AreSoFar b count after others 1 left_after
one_more b count seats after places others parts left left_after own s h p so_far place is e at more given =
    search (rules, counted, length_push, sum_by_push, All-pop, get_or_append_left, get_or_push)

pub opened : (b : Board) (count : ℕ) (seats : List SeatParts) (places : List BoardSeat) (parts left : ℕ)
    → AreSoFar b count seats places parts left → length places ≡ 0 → 0 < count → AreOpened b count seats
opened b count seats places parts left so_far none some = record {
  number = omega arith;
  each = λ i d lt. so_far.new i d (omega arith);
  all_parts = omega arith;
  crew = record {
    within = λ i d lt. (let is = (so_far.new i d lt).harvester_is in (omega arith, omega arith));
    once = λ h pos le. (let is = so_far.once h pos in grind (arith, nat_tests));
  };
}

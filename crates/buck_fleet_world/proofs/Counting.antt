-- What is counted along runs.
use Rattle.buck_fleet_world.proofs.Words.{newcomer, sum_by, get_or, ◌≡◌, ◌≢◌, ℕ, zero, suc, ◌+◌, ◌-◌, ◌*◌, ◌<◌, ◌≤◌, List, [], ◌∷◌, Bool, cond, length, set, refl, ap, ◌∙◌, eq-eqb, arith, mul-le-mul_left, rules, common_steps, nat_tests}
use Rattle.buck_fleet_world.proofs.Words.{version_of, Harvester, Event, WorldParts, IsHarvester, at, Step, Move, IsRun, last, harvester_of_event, IsFreshAt, IsFresh, one_if_more, lift_at, stale_at, if_by, all_lifts, lifts_of, all_stale}
use Rattle.buck_fleet_world.proofs.Words.{stale_of, IsGoing, IsSound}
use Rattle.std.specs.List.{range_with_len}
use Rattle.std.proofs.lemmas.List.Sums.{sum_by-le, sum_by-cons, sum_by-le-sum_by}
use Rattle.std.proofs.lemmas.List.FromFn.{get_or-range_with_len, length-range_with_len}
use Rattle.buck_fleet_world.proofs.Lists.{here, elsewhere}
use Rattle.buck_fleet_world.proofs.Sound.{is_in, move_of, stays_sound}
use Rattle.buck_fleet_world.proofs.Kept.{same_number}

by_self : (h : ℕ) (e : Event) (n : ℕ) → harvester_of_event e ≡ h → if_by h e n ≡ n
by_self h e n is = ap (λ (t : Bool). cond t n 0) (eq-eqb (harvester_of_event e) h is)

-- one raise of the front, by 1 at most
raise_is : (front version : ℕ) → front ≤ version → version ≤ front + 1 → one_if_more front version + front ≡ version
raise_is front version a b = grind (arith, nat_tests)

-- a lift makes the front greater by 1, and nothing else changes it
pub front_after : (w w' : WorldParts) (e : Event) → IsSound w → Step w e w' → lift_at w e w' + w.front ≡ w'.front
front_after w w' e s step = grind (arith, raise_is)

pub lifts_are_front : (w : WorldParts) (moves : List Move) → IsSound w → IsRun w moves
    → all_lifts w moves + w.front ≡ (last w moves).front
lifts_are_front w [] s r = omega arith
lifts_are_front w (m ∷ ms) s r =
    grind (arith, front_after, (lifts_are_front m.after ms (stays_sound w m.after m.event s r.0) r.1))

-- another harvester stays
pub foreign : (w w' : WorldParts) (e : Event) (g : ℕ) → IsSound w → Step w e w' → 1 ≤ g → g ≢ harvester_of_event e
    → at w' g ≡ at w g
foreign w w' e g s step low other =
    let move = move_of w w' e s step in
    ap (λ xs. get_or xs (g - 1) newcomer) move.harvesters_are
    ∙ elsewhere w.harvesters (harvester_of_event e) g move.now newcomer (is_in w e step.0).0 low other

-- k events of h so far: no more than the front, and while an attempt goes on no more than the version that it saw
pub record IsWithin (w : WorldParts) (h k : ℕ) : Type 0 where
  pub front : k ≤ w.front
  pub seen : IsGoing (at w h).stage → k ≤ (at w h).seen

pub at_here : (w w' x : WorldParts) (h : ℕ) (y : Harvester) → w' ≡ x → x.harvesters ≡ set w.harvesters (h - 1) y
    → IsHarvester w h → at w' h ≡ y
at_here w w' x h y e f h_in = search (rules, here)

-- one more event
within_step : (w w' : WorldParts) (e : Event) (h k : ℕ) → IsSound w → Step w e w' → IsFreshAt w e → 1 ≤ h
    → IsWithin w h k → IsWithin w' h (if_by h e (stale_at w e w') + if_by h e (lift_at w e w') + k)
within_step w w' e h k s step fresh low within = grind (arith, common_steps)

stale_and_lifts : (w : WorldParts) (moves : List Move) (h k : ℕ) → IsSound w → IsRun w moves → IsFresh w moves
    → 1 ≤ h → IsWithin w h k → stale_of h w moves + lifts_of h w moves + k ≤ (last w moves).front
stale_and_lifts w [] h k s r f low within = let a = within.front in omega arith
stale_and_lifts w (m ∷ ms) h k s r f low within =
    omega (
      arith,
      stale_and_lifts m.after ms h _ (stays_sound w m.after m.event s r.0) r.1 f.1 low
          (within_step w m.after m.event h k s r.0 f.0 low within),
    )

pub within_front : (w : WorldParts) (moves : List Move) (h : ℕ) → IsSound w → w.front ≡ 0 → IsRun w moves
    → IsFresh w moves → 1 ≤ h → stale_of h w moves + lifts_of h w moves ≤ (last w moves).front
within_front w moves h s none r f low =
    omega (arith, stale_and_lifts w moves h 0 s r f low record { front = omega arith; seen = λ _. omega arith })

-- no term is less, and that of h is more by k
more_at : (f g : ℕ → ℕ) (k h i : ℕ) (xs : List ℕ) → ((x : ℕ) → f x ≤ g x) → i < length xs → get_or xs i 0 ≡ h
    → f h + k ≤ g h → sum_by f xs + k ≤ sum_by g xs
more_at f g k h i [] low lt is more = absurd (omega arith)
more_at f g k h zero (x ∷ xs) low lt is more =
    let m : f x + k ≤ g x = rw is more in
    omega (arith, sum_by-cons f x xs, sum_by-cons g x xs, sum_by-le-sum_by f g xs low)
more_at f g k h (suc i) (x ∷ xs) low lt is more =
    omega (arith, sum_by-cons f x xs, sum_by-cons g x xs, low x, more_at f g k h i xs low (omega arith) is more)

-- what is counted of all is no more than what is counted of each harvester
shared : (w : WorldParts) (moves : List Move) → IsSound w → IsRun w moves → all_stale w moves + all_lifts w moves
    ≤ sum_by (λ h. stale_of h w moves + lifts_of h w moves) (range_with_len 1 (length w.harvesters))
shared w [] s r = omega arith
shared w (m ∷ ms) s r =
    let e = m.event in
    let h = harvester_of_event e in
    let h_in = is_in w e r.0.0 in
    let n = length w.harvesters in
    let more = more_at (λ g. stale_of g m.after ms + lifts_of g m.after ms)
    (λ g. stale_of g w (m ∷ ms) + lifts_of g w (m ∷ ms)) (stale_at w e m.after + lift_at w e m.after) h (h - 1)
    (range_with_len 1 n) (λ x. omega arith) (omega (arith, length-range_with_len 1 n))
    (get_or-range_with_len 1 n (h - 1) 0 (omega arith) ∙ omega arith)
    (omega (arith, by_self h e (stale_at w e m.after) refl, by_self h e (lift_at w e m.after) refl)) in
    let rest = rw ((same_number w m.after e s r.0).0) at (shared m.after ms (stays_sound w m.after e s r.0) r.1) in
    omega (arith, more, rest)

fewer : (n stale front version : ℕ) → stale + front ≤ n * front → front ≤ version → stale ≤ (n - 1) * version
fewer zero stale front version a b = omega arith
fewer (suc n) stale front version a b = grind (arith, mul-le-mul_left)

pub all_stale_within : (w : WorldParts) (moves : List Move) → IsSound w → w.front ≡ 0 → IsRun w moves → IsFresh w moves
    → IsSound (last w moves) → all_stale w moves ≤ (length w.harvesters - 1) * version_of (last w moves).history
all_stale_within w moves s none r f end =
    let n = length w.harvesters in
    let each = sum_by-le (λ h. stale_of h w moves + lifts_of h w moves) (last w moves).front (range_with_len 1 n)
    (λ k d lt. within_front w moves _ s none r f
    (omega (arith, get_or-range_with_len 1 n k d (omega (arith, length-range_with_len 1 n))))) in
    fewer n (all_stale w moves) (last w moves).front (version_of (last w moves).history)
    (omega (arith, rw (length-range_with_len 1 n) at each, shared w moves s r, lifts_are_front w moves s r))
    end.world.front_low

-- What is counted along a run: lifts and stale events.
use Rattle.std.specs.Prelude.{◌≡◌, ℕ, ◌+◌, ◌==◌, List, [], ◌∷◌, if◌then◌else◌, nat_lt}
use Rattle.buck_fleet_world.specs.declared.event.Event.{Event}
use Rattle.buck_fleet_world.specs.declared.event.Event.TheVariants.{Read, Try, Raise}
use Rattle.buck_fleet_world.specs.World.{WorldParts, at}
use Rattle.buck_fleet_world.specs.Run.{Move, harvester_of_event}

-- a read shows the front as it stands there
abbrev pub IsFreshAt : WorldParts → Event → Type 0
IsFreshAt w (Read h v) = v ≡ w.front
IsFreshAt w other = Unit {0}

abbrev pub IsFresh : WorldParts → List Move → Type 0
IsFresh w [] = Unit {0}
IsFresh w (m ∷ ms) = IsFreshAt w m.event × IsFresh m.after ms

abbrev pub one_if_more : ℕ → ℕ → ℕ
one_if_more a b = if nat_lt a b then 1 else 0

-- 1 if it is a raise that makes the front greater
abbrev pub lift_at : WorldParts → Event → WorldParts → ℕ
lift_at w (Raise h) w' = one_if_more w.front w'.front
lift_at w other w' = 0

-- 1 if it is a try that adds to its harvester's stale attempts
abbrev pub stale_at : WorldParts → Event → WorldParts → ℕ
stale_at w (Try h) w' = one_if_more (at w h).stale (at w' h).stale
stale_at w other w' = 0

-- n if the event is h's
abbrev pub if_by : ℕ → Event → ℕ → ℕ
if_by h e n = if harvester_of_event e == h then n else 0

-- the sum of what is counted at each event of a run: of all harvesters, and of h
abbrev pub count_all : (WorldParts → Event → WorldParts → ℕ) → WorldParts → List Move → ℕ
count_all count w [] = 0
count_all count w (m ∷ ms) = count w m.event m.after + count_all count m.after ms

abbrev pub count_own : (WorldParts → Event → WorldParts → ℕ) → ℕ → WorldParts → List Move → ℕ
count_own count h w [] = 0
count_own count h w (m ∷ ms) = if_by h m.event (count w m.event m.after) + count_own count h m.after ms

-- how many lifts there are
abbrev pub all_lifts : WorldParts → List Move → ℕ
all_lifts = count_all lift_at

abbrev pub lifts_of : ℕ → WorldParts → List Move → ℕ
lifts_of = count_own lift_at

-- how many stale events there are
abbrev pub all_stale : WorldParts → List Move → ℕ
all_stale = count_all stale_at

abbrev pub stale_of : ℕ → WorldParts → List Move → ℕ
stale_of = count_own stale_at

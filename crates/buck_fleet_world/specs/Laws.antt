-- What holds of every run, for every instruction and any number of harvesters.
use Rattle.std.specs.Prelude.{◌≡◌, ◌≢◌, ℕ, ◌+◌, ◌-◌, ◌*◌, ◌≤◌, List, ◌∷◌, ◌++◌, slice_get, Some}
use Rattle.buck_apt_instruction.specs.Instruction.{InstructionParts}
use Rattle.buck_book_postings.specs.declared.posting.Posting.{Posting}
use Rattle.buck_book_postings.specs.Posting.{harvester_of, planned_version}
use Rattle.buck_book_postings.specs.Plan.{PlanParts}
use Rattle.buck_book_postings.specs.History.{IsLawful, version_of, in_force}
use Rattle.buck_fleet_world.specs.declared.stage.Stage.TheVariants.{Planned}
use Rattle.buck_fleet_world.specs.declared.event.Event.TheVariants.{Read, Try}
use Rattle.buck_fleet_world.specs.World.{WorldParts, opening, IsHarvester, at, IsAnswered, NobodyAnswered}
use Rattle.buck_fleet_world.specs.Run.{Move, IsRun, last, added}
use Rattle.buck_fleet_world.specs.Counts.{IsFresh, all_lifts, lifts_of, all_stale, stale_of}

-- a law of each run of n harvesters: of its moves, and of the world at its end
abbrev pub AfterEachRun : (InstructionParts → ℕ → List Move → WorldParts → Type 0) → Type 0
AfterEachRun P =
    (i : InstructionParts) (n : ℕ) (moves : List Move)
    → IsRun (opening i n) moves
    → P i n moves (last (opening i n) moves)

abbrev pub AfterEachFreshRun : (InstructionParts → ℕ → List Move → WorldParts → Type 0) → Type 0
AfterEachFreshRun P = AfterEachRun (λ i n moves w. IsFresh (opening i n) moves → P i n moves w)

-- the history is lawful for the instruction that the world was opened with
abbrev pub HistoryIsLawful : Type 0
HistoryIsLawful = AfterEachRun (λ i n moves w. IsLawful w.history × (w.history.instruction ≡ i))

-- the postings are those that tries, locked cuts and new targets added, in order, each once
abbrev pub PostingsAreThoseAdded : Type 0
PostingsAreThoseAdded = AfterEachRun (λ i n moves w. w.history.postings ≡ added (opening i n) moves)

-- a try whose plan was made under a sheet that isn't in force leaves the history
abbrev pub NoOldPlanIsAdded : Type 0
NoOldPlanIsAdded =
    (i : InstructionParts) (n : ℕ) (before after : List Move) (h : ℕ) (w' : WorldParts) (p : PlanParts)
    → IsRun (opening i n) (before ++ (record { event = Try h; after = w' }) ∷ after)
    → (at (last (opening i n) before) h).stage ≡ Planned p
    → p.sheet ≢ in_force (last (opening i n) before).history
    → w'.history ≡ (last (opening i n) before).history

abbrev pub StaleAtMostThree : Type 0
StaleAtMostThree = AfterEachRun (λ i n moves w. (h : ℕ) → IsHarvester w h → (at w h).stale ≤ 3)

abbrev pub OneAnswered : Type 0
OneAnswered = AfterEachRun (λ i n moves w.
    (h g : ℕ) → IsHarvester w h → IsHarvester w g → IsAnswered w h → IsAnswered w g → h ≡ g)

-- nobody has seen a version past the front, which is at most the version in force, and equals it if nobody is
-- answered
abbrev pub FrontIsNearVersion : Type 0
FrontIsNearVersion = AfterEachRun (λ i n moves w.
    ((h : ℕ) → IsHarvester w h → (at w h).seen ≤ w.front)
    × (w.front ≤ version_of w.history)
    × (NobodyAnswered w → w.front ≡ version_of w.history))

-- a later read of a harvester doesn't show an older version
abbrev pub ReadsNeverFall : Type 0
ReadsNeverFall =
    (i : InstructionParts) (n : ℕ) (before between after : List Move) (h v v' : ℕ) (w w' : WorldParts)
    → IsRun (opening i n) (before
    ++ (record { event = Read h v; after = w }) ∷ (between
    ++ (record { event = Read h v'; after = w' }) ∷ after))
    → v ≤ v'

-- a read isn't older than the version of any posting that its harvester had added before
abbrev pub ReadsAfterReplies : Type 0
ReadsAfterReplies =
    (i : InstructionParts) (n : ℕ) (before after : List Move) (h v k : ℕ) (w : WorldParts) (x : Posting)
    → IsRun (opening i n) (before ++ (record { event = Read h v; after = w }) ∷ after)
    → slice_get (last (opening i n) before).history.postings k ≡ Some x
    → harvester_of x ≡ h
    → planned_version x ≤ v

-- all lifts together are as many as the front
abbrev pub LiftsAreTheFront : Type 0
LiftsAreTheFront = AfterEachFreshRun (λ i n moves w. all_lifts (opening i n) moves ≡ w.front)

-- one harvester's stale events and lifts together are at most the front
abbrev pub StaleAndLiftsAtMostFront : Type 0
StaleAndLiftsAtMostFront = AfterEachFreshRun (λ i n moves w.
    (h : ℕ) → 1 ≤ h → h ≤ n → stale_of h (opening i n) moves + lifts_of h (opening i n) moves ≤ w.front)

-- so it has at most as many stale events as the others have lifts
abbrev pub StaleAtMostLiftsOfOthers : Type 0
StaleAtMostLiftsOfOthers = AfterEachFreshRun (λ i n moves w.
    (h : ℕ) → 1 ≤ h → h ≤ n
    → stale_of h (opening i n) moves + lifts_of h (opening i n) moves ≤ all_lifts (opening i n) moves)

-- and all together have at most so many stale events as the other harvesters times the version in force
abbrev pub AllStaleAtMost : Type 0
AllStaleAtMost = AfterEachFreshRun (λ i n moves w.
    all_stale (opening i n) moves ≤ (n - 1) * version_of w.history)

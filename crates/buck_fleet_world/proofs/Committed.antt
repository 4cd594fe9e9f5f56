-- What a commit of the book leaves, as the world sees it.
use Rattle.buck_fleet_world.proofs.Words.{◌≡◌, ◌≢◌, ℕ, ◌+◌, ◌-◌, List, [], ◌∷◌, ◌++◌, slice_set, Option, ap, ◌∙◌, arith, rules, SheetParts, Posting, PlanParts, HistoryParts, version_of, in_force, sheet_at, sheets_with, IsNext, Idle}
use Rattle.buck_fleet_world.proofs.Words.{Answered, Harvester, IsPlanUnder, Adds, Tries, world_of, is_at}

abbrev pub answered : List Harvester → ℕ → List Harvester
answered xs h = slice_set xs (h - 1) (record { stage = Answered; seen = (is_at xs h).seen; stale = (is_at xs h).stale })

-- a committed posting of h is added: s was m before the room was made
pub posting_added : (s m s' : HistoryParts) (xs ys : List Harvester) (front h : ℕ) (x : HistoryParts → Posting)
    (y : Posting) (next : Option SheetParts) → m ≡ s → IsNext m (x m) next → y ≡ x m
    → s'.postings ≡ m.postings ++ y ∷ [] → s'.sheets ≡ sheets_with m.sheets next → s'.instruction ≡ m.instruction
    → ys ≡ answered xs h → Adds (world_of s front xs) h (x s) (world_of s' front ys)
posting_added s m s' xs ys front h x y next same is_next is postings sheets instruction now = rw (← same) (
  next,
  is_next,
  λ j. world_of
      (record {
        instruction = instruction j;
        sheets = sheets j;
        postings = (postings ∙ ap (λ z. m.postings ++ z ∷ []) is) j;
      })
      front (now j),
)

-- a plan of the sheet in force was made under the version in force, and no other plan was
pub version_is : (s m : HistoryParts) (v : ℕ) (p : PlanParts) → IsPlanUnder s v p → m ≡ s → p.sheet ≡ in_force m
    → v ≡ version_of s
version_is s m v p under same in_force_is = search (rules)

pub version_is_not : (s : HistoryParts) (v : ℕ) (p : PlanParts) → IsPlanUnder s v p → p.sheet ≢ in_force s
    → v ≢ version_of s
version_is_not s v p under other e = other (under.sheet_is ∙ ap (λ (k : ℕ). sheet_at s.instruction s.sheets k) e)

-- a try that was stale
pub tried_stale : (s s' : HistoryParts) (xs ys : List Harvester) (front h : ℕ) (p : PlanParts) → s' ≡ s
    → IsPlanUnder s (is_at xs h).seen p → p.sheet ≢ in_force s
    → ys ≡ slice_set xs (h - 1) (record { stage = Idle; seen = (is_at xs h).seen; stale = (is_at xs h).stale + 1 })
    → Tries (world_of s front xs) h p (world_of s' front ys)
tried_stale s s' xs ys front h p same under other now = grind (arith, version_is_not)

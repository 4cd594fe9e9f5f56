-- what a posting that was added under the lock tells its seat's caller
use Rattle.buck_fleet.proofs.Words.{◌≡◌, ℕ, ◌+◌, ◌≤◌, List, [], ◌∷◌, ◌++◌, arith, rules, Posting, Demand, DemandParts, PlanParts, IsPlan, HistoryParts, version_of, in_force, entry_of, demand_of, ends-append, ends_with_end, Kept, Reply}
use Rattle.buck_fleet.proofs.Words.{DemandReply, SeatParts, Keeps, KeepsOne, seen_of, IsReplyFor, IsOfPlan, IsReplyToTargets, kept_of, kept_demand_of}

-- `inside` is the seat before it
pub is_kept : (inside seat seat' : SeatParts) (items : List Kept) (k k' : Kept) → inside ≡ seat → items ≡ inside.kept
    → k' ≡ k → Keeps inside (items ++ k' ∷ []) seat' → KeepsOne seat k seat'
is_kept inside seat seat' items k k' view is same kept = rw (← view) (rw (is, same) at kept)

-- the version in force never falls
pub no_less : (before after : HistoryParts) (x : Posting) → after.postings ≡ before.postings ++ x ∷ []
    → after.instruction ≡ before.instruction → version_of before ≤ version_of after
no_less before after x ps i = grind (arith, ends-append)

-- after a demand it is the next one
pub next : (before after : HistoryParts) (d : DemandParts) → after.postings ≡ before.postings ++ Demand d ∷ []
    → after.instruction ≡ before.instruction → version_of after ≡ version_of before + 1
next before after d ps i = grind (arith, ends_with_end)

pub reply_for : (h : HistoryParts) (v s s' : SeatParts) (p : PlanParts) (r : Reply) → v ≡ s
    → r.entry ≡ entry_of h v.harvester p → p.sheet ≡ in_force h → IsPlan p → version_of h ≤ seen_of s'
    → KeepsOne s (kept_of r) s' → IsReplyFor s s' p.stem r × IsOfPlan p r.entry
reply_for h v s s' p r view made under planned seen kept = search rules

pub reply_to : (h : HistoryParts) (v s s' : SeatParts) (targets : List ℕ) (r : DemandReply) → v ≡ s
    → r.demand ≡ demand_of h v.harvester targets → version_of h + 1 ≤ seen_of s'
    → KeepsOne s (kept_demand_of r) s' → IsReplyToTargets s s' targets r
reply_to h v s s' targets r view made seen kept = search rules

-- What each harvester's postings come to.
use Rattle.std.specs.Prelude.{◌≡◌, ℕ, ◌==◌, Bool, false, Option, Some, None, List, []}
use Rattle.std.specs.List.{filter, position}
use Rattle.std.specs.Ordering.{nat_cmp}
use Rattle.std.specs.BTreeMap.{get, BTreeMap}
use Rattle.buck_apt_instruction.specs.Instruction.{InstructionParts}
use Rattle.buck_book_postings.specs.declared.posting.Posting.{Posting}
use Rattle.buck_book_postings.specs.declared.posting.Posting.TheVariants.{Cut, Demand}
use Rattle.buck_book_postings.specs.Posting.{harvester_of}
use Rattle.buck_page_figures.specs.declared.owns.Own.{Own}
use Rattle.buck_page_figures.specs.Sums.{AreSums}

-- the postings of a harvester
abbrev pub own_of : ℕ → List Posting → List Posting
own_of h ps = filter (λ x. harvester_of x == h) ps

-- a posting is a cut of a harvester
abbrev pub is_cut_of : ℕ → Posting → Bool
is_cut_of h (Cut e) = e.harvester == h
is_cut_of h (Demand d) = false

-- what is kept of a harvester is what its postings come to, and the place of its first cut among all postings
abbrev pub IsOwn : InstructionParts → ℕ → List Posting → List Posting → Option Own → Type 0
IsOwn i h ps us None = (own_of h ps ≡ []) × (own_of h us ≡ [])
IsOwn i h ps us (Some own) =
    (own.harvester ≡ h)
    × AreSums i (own_of h ps) (own_of h us) own.sums
    × (own.first ≡ position (is_cut_of h) ps)

-- of each harvester
abbrev pub AreOwns : InstructionParts → List Posting → List Posting → BTreeMap ℕ Own → Type 0
AreOwns i ps us owns = (h : ℕ) → IsOwn i h ps us (get nat_cmp owns h)

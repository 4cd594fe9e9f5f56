-- What the calls of a kept book answer, and what they leave of it.
use Rattle.std.specs.Prelude.{◌≡◌, ◌⊎◌, ◌==◌, ◌<◌, ◌≤◌, ℕ, List, length, Option, Some, None, Ok, Err, if◌then◌else◌}
use Rattle.buck_apt.specs.Apt.{apt_of}
use Rattle.buck_apt_instruction.specs.Instruction.{InstructionParts}
use Rattle.buck_book_postings.specs.declared.demand.DemandRefusal.{DemandRefusal}
use Rattle.buck_book_postings.specs.declared.demand.DemandRefusal.TheVariants as demand
use Rattle.buck_book_postings.specs.Entry.{EntryParts}
use Rattle.buck_book_postings.specs.History.{in_force}
use Rattle.buck_rule.specs.declared.named.NamedRule.{NamedRule}
use Rattle.buck_rule.specs.declared.named.NamedRule.TheVariants.{Steady, Linear, Step, Root}
use Rattle.buck_c_session.specs.declared.felling.Felled.{Felled}
use Rattle.buck_c_session.specs.declared.felling.Zone.{Zone}
use Rattle.buck_c_session.specs.declared.felling.FellFault.{FellFault}
use Rattle.buck_c_session.specs.declared.felling.FellFault.TheVariants as fell
use Rattle.buck_book_cutter.specs.Cut.{HasCut, HasRetargeted}
use Rattle.buck_c_session.specs.Kept.{ArePricesBy, KeptParts, opened, IsDemandRefused, SameTerms}
use Rattle.buck_c_session.specs.Felled.{stem_by, IsFellFault}
use Rattle.buck_c_calls.specs.declared.book.Terms.{Terms}
use Rattle.buck_c_calls.specs.declared.showing.Cut.{Cut}
use Rattle.buck_c_calls.specs.Shown.{ShowsCut}
use Rattle.buck_book_postings.specs.declared.posting.TheConstants.{MOST_POSTINGS}

-- the statuses of these calls that no outcome of the program has: the block holds no book; the numbers aren't what the
-- header allows, or the block holds a book already; the book is at its capacity
abbrev pub closed : ℕ
closed = 7

abbrev pub misused : ℕ
misused = 8

abbrev pub full : ℕ
full = 9

-- and those that mean what the program's mean: refused, and out of memory
abbrev pub refused : ℕ
refused = 1

abbrev pub memory : ℕ
memory = 3

abbrev pub rule_of : ℕ → Option NamedRule
rule_of n =
    if n == 0
    then Some Steady
    else if n == 1
    then Some Linear
    else if n == 2
    then Some Step
    else if n == 3
    then Some Root
    else None

-- a book is left, of which this holds and what it was before; if there was none, there is none, and the status says so
abbrev pub IsCallOf : (KeptParts → KeptParts → ℕ → Type 0) → Type 0 → Option KeptParts → Option KeptParts → ℕ → Type 0
IsCallOf Does Nothing None new status = (new ≡ None) × (status ≡ closed) × Nothing
IsCallOf Does Nothing (Some before) new status = (after : KeptParts) × (new ≡ Some after) × Does before after status

-- a book of the instruction that a file has, with no posting
abbrev pub HasOpened : List ℕ → NamedRule → ℕ → KeptParts → Type 0
HasOpened apt rule capacity kept =
    (instruction : InstructionParts) × (apt_of apt ≡ Ok instruction) × (kept ≡ opened rule instruction capacity)

-- why there is none: the file is refused, or memory ran out
abbrev pub IsOpenFault : List ℕ → ℕ → Type 0
IsOpenFault apt status =
    ((status ≡ refused) × ((why : _) × (apt_of apt ≡ Err why))) ⊎ (status ≡ memory)

-- the block is free and the terms are allowed
abbrev pub IsAllowed : Terms → Option KeptParts → Type 0
IsAllowed terms old =
    (old ≡ None) × (0 < terms.capacity) × (terms.capacity ≤ MOST_POSTINGS)
    × ((rule : NamedRule) × (rule_of terms.rule ≡ Some rule))

-- an opening: misused if the block holds a book or the terms aren't allowed
abbrev pub AnswersOpen : List ℕ → Terms → Option KeptParts → Option KeptParts → ℕ → Type 0
AnswersOpen apt terms old new status =
    ((status ≡ 0) × IsAllowed terms old × ((rule : NamedRule) × (kept : KeptParts) × (rule_of terms.rule ≡ Some rule)
    × HasOpened apt rule terms.capacity kept × (new ≡ Some kept)))
    ⊎ ((new ≡ old) × (IsOpenFault apt status ⊎ ((status ≡ misused) × (IsAllowed terms old → ⊥))))

abbrev pub status_of_fell : FellFault → ℕ
status_of_fell fell.Harvester = misused
status_of_fell fell.Stem = refused
status_of_fell fell.Full = full
status_of_fell fell.Memory = memory

abbrev pub status_of_demand : DemandRefusal → ℕ
status_of_demand demand.Full = full
status_of_demand (demand.Targets fault) = refused
status_of_demand demand.Memory = memory

-- a stem was cut and the cutting is shown; or it was refused, and nothing is changed
abbrev pub AnswersCut : Felled → List ℕ → List Zone → Cut → Cut → KeptParts → KeptParts → ℕ → Type 0
AnswersCut felled samples zones old new before after status =
    SameTerms before after
    × (((status ≡ 0) × ((entry : EntryParts)
    × HasCut (ArePricesBy before.rule) felled.harvester (stem_by felled samples zones) before.history after.history
    entry
    × ShowsCut (in_force before.history) (length before.history.postings) entry new))
    ⊎ ((after ≡ before) × (new ≡ old) × ((fault : FellFault)
    × IsFellFault before felled (stem_by felled samples zones) fault
    × (status ≡ status_of_fell fault))))

-- targets were put in force; or they were refused, and nothing is changed
abbrev pub AnswersRetarget : ℕ → List ℕ → KeptParts → KeptParts → ℕ → Type 0
AnswersRetarget harvester targets before after status =
    SameTerms before after
    × (((status ≡ 0) × ((d : _)
    × HasRetargeted (ArePricesBy before.rule) harvester targets before.history after.history d))
    ⊎ ((after ≡ before) × (((status ≡ misused) × (0 < harvester → harvester ≤ 64 → ⊥))
    ⊎ ((status ≡ memory) ⊎ ((fault : DemandRefusal) × IsDemandRefused before.history before.capacity targets fault
    × (status ≡ status_of_demand fault))))))

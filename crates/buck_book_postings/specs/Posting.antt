-- What each posting says, be it a cut or a demand, and which postings end a period.
use Rattle.std.specs.Prelude.{ℕ, ◌+◌, ◌==◌, Bool, true, cond, List, [], ◌∷◌}
use Rattle.std.specs.List.{flat_map}
use Rattle.buck_apt_instruction.specs.Instruction.{InstructionParts}
use Rattle.buck_book_postings.specs.declared.posting.Posting.{Posting}
use Rattle.buck_book_postings.specs.declared.posting.Posting.TheVariants.{Cut, Demand}

abbrev pub harvester_of : Posting → ℕ
harvester_of (Cut e) = e.harvester
harvester_of (Demand d) = d.harvester

abbrev pub number_of : Posting → ℕ
number_of (Cut e) = e.number
number_of (Demand d) = d.number

abbrev pub planned_version : Posting → ℕ
planned_version (Cut e) = e.version
planned_version (Demand d) = d.version

-- whether a posting ends a period after `cuts` cuts since the last end: a demand does, and the cut that fills the
-- period
abbrev pub is_end : ℕ → ℕ → Posting → Bool
is_end period cuts (Cut e) = cuts + 1 == period
is_end period cuts (Demand d) = true

-- how many ends some postings have, if `cuts` cuts came since the last end before them
abbrev pub ends_from : ℕ → ℕ → List Posting → ℕ
ends_from period cuts [] = 0
ends_from period cuts (x ∷ more) =
    cond (is_end period cuts x) (1 + ends_from period 0 more) (ends_from period (cuts + 1) more)

-- how many cuts came since the last end, if `cuts` cuts came since the last one before these postings
abbrev pub cuts_from : ℕ → ℕ → List Posting → ℕ
cuts_from period cuts [] = cuts
cuts_from period cuts (x ∷ more) =
    cond (is_end period cuts x) (cuts_from period 0 more) (cuts_from period (cuts + 1) more)

-- how many ends some postings have, from the opening on
abbrev pub ends_of : InstructionParts → List Posting → ℕ
ends_of i ps = ends_from i.period 0 ps

-- how many cuts came since the last end, from the opening on
abbrev pub cuts_since_end : InstructionParts → List Posting → ℕ
cuts_since_end i ps = cuts_from i.period 0 ps

-- the targets in force after some postings: those of the last demand, else those that were in force before
abbrev pub targets_after : List ℕ → List Posting → List ℕ
targets_after targets [] = targets
targets_after targets (Cut e ∷ more) = targets_after targets more
targets_after targets (Demand d ∷ more) = targets_after d.targets more

-- from the opening on: the instruction's, class by class
abbrev pub opening_targets : InstructionParts → List ℕ
opening_targets i = flat_map (λ a. a.targets) i.assortments

abbrev pub targets_of : InstructionParts → List Posting → List ℕ
targets_of i ps = targets_after (opening_targets i) ps

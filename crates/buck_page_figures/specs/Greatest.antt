-- The longest stem, and the one whose steering cost most.
use Rattle.std.specs.Prelude.{◌≡◌, ℕ, ◌+◌, ◌-◌, ◌<◌, ◌≤◌, List, map, slice_index, Option, Some, None}
use Rattle.std.specs.List.{zip}
use Rattle.buck_apt_instruction.specs.Instruction.{InstructionParts}
use Rattle.buck_book_postings.specs.declared.posting.Posting.{Posting}
use Rattle.buck_page_figures.specs.Figures.{cuts_in, length_in, worth_in, at_base_in}

-- the place of the first of the greatest of some numbers; none if all are 0
abbrev pub IsFirstGreatest : List ℕ → Option ℕ → Type 0
IsFirstGreatest ns None = (k : ℕ) → slice_index ns k ≡ 0
IsFirstGreatest ns (Some at) =
    (0 < slice_index ns at)
    × ((k : ℕ) → slice_index ns k ≤ slice_index ns at)
    × ((k : ℕ) → k < at → slice_index ns k < slice_index ns at)

-- the length of each stem and 1 more, so that a demand, which has none, has less than any
abbrev pub lengths_of : List Posting → List ℕ
lengths_of ps = map (λ x. cuts_in x + length_in x) ps

-- what steering cost at each posting, given the same unsteered
abbrev pub costs_of : InstructionParts → List Posting → List Posting → List ℕ
costs_of i ps us = map (λ p. worth_in p.1 - at_base_in i p.0) (zip ps us)

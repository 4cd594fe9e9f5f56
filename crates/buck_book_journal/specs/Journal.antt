-- A journal, and the history that it says of an instruction.
use Rattle.std.specs.Prelude.{◌≡◌, ℕ, List, take}
use Rattle.buck_apt_instruction.specs.Instruction.{InstructionParts}
use Rattle.buck_book_postings.specs.declared.posting.Posting.{Posting}
use Rattle.buck_book_postings.specs.Posting.{ends_of, cuts_since_end}
use Rattle.buck_book_postings.specs.History.{HistoryParts, prices_at}

pub record JournalParts : Type 0 where
  pub sheets : List (List ℕ)  -- the prices of each, by version
  pub entries : List Posting  -- in the order of their commits

-- what a journal says of an instruction
abbrev pub history_of : InstructionParts → JournalParts → HistoryParts
history_of i j = record { instruction = i; sheets = j.sheets; postings = j.entries }

-- the version in force after the first k postings, and its prices
abbrev pub version_at : HistoryParts → ℕ → ℕ
version_at h k = ends_of h.instruction (take k h.postings)

abbrev pub prices_then : HistoryParts → ℕ → List ℕ
prices_then h k = prices_at h.sheets (version_at h k)

-- a period begins there: there was no cut since the last end
abbrev pub Begins : HistoryParts → ℕ → Type 0
Begins h k = cuts_since_end h.instruction (take k h.postings) ≡ 0

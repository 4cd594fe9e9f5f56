-- How many logs there are of each class.
use Rattle.std.specs.Prelude.{◌≡◌, ℕ, ◌+◌, ◌≤◌, List, All, length, slice_index}
use Rattle.buck_apt_instruction.specs.declared.class.Class.{Class}
use Rattle.buck_apt_instruction.specs.Instruction.{InstructionParts, IsClass, index_of}
use Rattle.buck_stem_shape.specs.Stem.{StemParts}
use Rattle.buck_value.specs.declared.log.Log.{Log}
use Rattle.buck_value.specs.Allowed.{IsAllowed}
use Rattle.buck_book_postings.specs.declared.posting.Posting.{Posting}
use Rattle.buck_book_postings.specs.declared.posting.Posting.TheVariants.{Cut, Demand}
use Rattle.buck_book_postings.specs.Counts.{class_logs}

-- the counts with some logs of a stem more: each class has as many more as there are logs of it
pub record AreCountsWith (i : InstructionParts) (stem : StemParts) (logs : List Log) (before after : List ℕ)
    : Type 0 where
  pub same_number : length after ≡ length before
  pub each : (c : Class) → IsClass i c
      → slice_index after (index_of i c) ≡ slice_index before (index_of i c) + class_logs i c stem logs
  pub low : (p : ℕ) → slice_index after p ≤ slice_index before p + length logs

-- with a posting more that is cut into some logs; a demand cuts nothing
abbrev pub AreCountsOn : InstructionParts → Posting → List Log → List ℕ → List ℕ → Type 0
AreCountsOn i (Cut e) logs before after = AreCountsWith i e.stem logs before after
AreCountsOn i (Demand d) logs before after = after ≡ before

-- logs into which a posting's stem may be cut
abbrev pub AreOfPosting : InstructionParts → Posting → List Log → Type 0
AreOfPosting i (Cut e) logs = All (λ g. IsAllowed i e.stem g) logs × (length logs ≤ 80)
AreOfPosting i (Demand d) logs = Unit {0}

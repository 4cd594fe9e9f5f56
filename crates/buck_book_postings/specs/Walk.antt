-- A way through the postings of a history, from the opening on.
use Rattle.std.specs.Prelude.{◌≡◌, ℕ, ◌<◌, List, take, slice_index}
use Rattle.buck_apt_instruction.specs.declared.class.Class.{Class}
use Rattle.buck_apt_instruction.specs.Instruction.{InstructionParts, IsClass, index_of}
use Rattle.buck_rule.specs.declared.standing.Standing.{Standing}
use Rattle.buck_rule.specs.Relation.{Meets}
use Rattle.buck_value.specs.Allowed.{IsAllowed, end_of}
use Rattle.buck_dp.specs.Cutting.{IsCutFrom}
use Rattle.buck_book_postings.specs.declared.posting.Posting.{Posting}
use Rattle.buck_book_postings.specs.declared.posting.Posting.TheVariants.{Cut, Demand}
use Rattle.buck_book_postings.specs.Targets.{AreTargets}
use Rattle.buck_book_postings.specs.History.{standing_of}

-- a place among the postings of a history
pub record WalkParts : Type 0 where
  pub instruction : InstructionParts
  pub postings : List Posting
  pub at : ℕ  -- how many of them were passed

abbrev pub walk_of : InstructionParts → List Posting → ℕ → WalkParts
walk_of i ps at = record { instruction = i; postings = ps; at = at }

-- the postings that were passed
abbrev pub passed : WalkParts → List Posting
passed w = take w.at w.postings

-- a posting can be counted: the logs of a cut are an admissible cutting, the targets of a demand are valid
abbrev pub IsCountable : InstructionParts → Posting → Type 0
IsCountable i (Cut e) = IsCutFrom (IsAllowed i e.stem) (end_of i) 0 e.logs
IsCountable i (Demand d) = AreTargets i d.targets

-- how the class at a place among all classes stands after some postings
abbrev pub StandsAfter : InstructionParts → List Posting → ℕ → Standing → Type 0
StandsAfter i ps place s =
    (c : Class) (k : IsClass i c) → index_of i c ≡ place → s ≡ standing_of i k.assortment c ps

-- the price of a class keeps the price relation after some postings
abbrev pub MeetsAfter : (i : InstructionParts) → List Posting → List ℕ → (c : Class) → IsClass i c → Type 0
MeetsAfter i ps prices c k = Meets (standing_of i k.assortment c ps) (slice_index prices (index_of i c))

-- the price of the class at this place doesn't keep the price relation after some postings, and those of all classes
-- before it do
pub record IsWrongPrice (i : InstructionParts) (ps : List Posting) (prices : List ℕ) (at : ℕ) : Type 0 where
  pub class : Class
  pub exists : IsClass i class
  pub place : index_of i class ≡ at
  pub wrong : MeetsAfter i ps prices class exists → ⊥
  pub least : (c : Class) (k : IsClass i c) → index_of i c < at → MeetsAfter i ps prices c k

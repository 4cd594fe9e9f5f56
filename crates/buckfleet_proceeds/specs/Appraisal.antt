-- What journals bring under an owner's instruction, beside the best cuttings under it.
use Rattle.std.specs.Prelude.{◌≡◌, ◌≢◌, ℕ, List, [], length, slice_get, sum_by, Option, Some, None}
use Rattle.std.specs.BTreeMap.{get}
use Rattle.std.specs.Ordering.{nat_cmp}
use Rattle.buck_apt_instruction.specs.Instruction.{InstructionParts}
use Rattle.buck_book_postings.specs.declared.posting.Posting.{Posting}
use Rattle.buck_page_figures.specs.Figures.{AreUnsteered, cuts_in}
use Rattle.buck_page_figures.specs.Owns.{own_of}
use Rattle.buckfleet_proceeds.specs.declared.appraisal.Appraisal.{Appraisal}
use Rattle.buckfleet_proceeds.specs.declared.paid.Account.{Account}
use Rattle.buckfleet_proceeds.specs.declared.paid.Paid.{Paid}
use Rattle.buckfleet_proceeds.specs.Paid.{AreAllBought, IsPaidFor, IsPaidOf}

-- what postings come to, given the same with only their bought logs, and with the first best cuttings, which are all
-- bought
pub record IsAccount (own : InstructionParts) (ps bought best : List Posting) (a : Account) : Type 0 where
  pub number : a.stems ≡ sum_by cuts_in ps
  pub as_cut : IsPaidFor own ps bought a.cut
  pub at_best : IsPaidFor own best best a.best

-- what those of a harvester come to, if it has a posting
abbrev pub IsAccountOf : InstructionParts → ℕ → List Posting → List Posting → List Posting → Option Account → Type 0
IsAccountOf own h ps bought best None = (own_of h ps ≡ []) × (own_of h bought ≡ []) × (own_of h best ≡ [])
IsAccountOf own h ps bought best (Some a) =
    (own_of h ps ≢ []) × IsAccount own (own_of h ps) (own_of h bought) (own_of h best) a

-- what the logs of each assortment come to
pub record AreEachPaid (own : InstructionParts) (ps bought : List Posting) (parts : List Paid) : Type 0 where
  pub one_each : length parts ≡ length own.assortments
  pub each : (a : ℕ) (p : Paid) → slice_get parts a ≡ Some p → IsPaidOf own a ps bought p

pub record AreAppraised (own : InstructionParts) (ps bought best : List Posting) (p : Appraisal) : Type 0 where
  pub whole : IsAccount own ps bought best p.total
  pub owns : (h : ℕ) → IsAccountOf own h ps bought best (get nat_cmp p.harvesters h)
  pub as_cut : AreEachPaid own ps bought p.assortments.items
  pub at_best : AreEachPaid own best best p.best_assortments.items

-- the appraisal of some postings
pub record IsAppraisal (own : InstructionParts) (ps : List Posting) (p : Appraisal) : Type 0 where
  pub bought : List Posting
  pub best : List Posting
  pub are_bought : AreAllBought own ps bought
  pub are_best : AreUnsteered own ps best
  pub appraised : AreAppraised own ps bought best p

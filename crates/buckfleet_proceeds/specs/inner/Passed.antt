-- An appraisal with one posting more.
use Rattle.std.specs.Prelude.{◌≡◌, ℕ, ◌+◌, ◌*◌, ◌≤◌, List, [], ◌∷◌, length, slice_get, Some, IfSome}
use Rattle.std.specs.BTreeMap.{get}
use Rattle.std.specs.Ordering.{nat_cmp}
use Rattle.buck_apt_instruction.specs.Instruction.{InstructionParts}
use Rattle.buck_dp.specs.Best.{IsAdmissible}
use Rattle.buck_book_postings.specs.declared.posting.Posting.{Posting}
use Rattle.buck_book_postings.specs.declared.posting.Posting.TheVariants.{Cut, Demand}
use Rattle.buck_book_postings.specs.declared.posting.TheConstants.{MOST_POSTINGS}
use Rattle.buck_book_postings.specs.Counts.{assortment_logs_in}
use Rattle.buck_page_figures.specs.Figures.{IsUnsteered, base_sheet, logs_in}
use Rattle.buck_page_figures.specs.Assorted.{part_at_base_in, part_volume_in}
use Rattle.buckfleet_terms_files.specs.Own.{HasShapeOf}
use Rattle.buckfleet_proceeds.specs.declared.appraisal.Appraisal.{Appraisal}
use Rattle.buckfleet_proceeds.specs.declared.paid.Account.{Account}
use Rattle.buckfleet_proceeds.specs.declared.paid.Paid.{Paid}
use Rattle.buckfleet_proceeds.specs.Paid.{IsBought}
use Rattle.buckfleet_proceeds.specs.Appraisal.{IsAccount, IsAppraisal}
use Rattle.buckfleet_proceeds.specs.inner.Logs.{AreFew}

-- a posting may stand in a journal of an instruction beside which the owner's may stand
abbrev pub IsPassable : InstructionParts → Posting → Type 0
IsPassable own (Cut e) = (i : InstructionParts) × HasShapeOf i own × IsAdmissible (base_sheet i) e.stem e.logs
IsPassable own (Demand d) = Unit {0}

-- what the logs of an assortment come to with those of a posting more
pub record IsPaidWith (own : InstructionParts) (a : ℕ) (x bought : Posting) (p q : Paid) : Type 0 where
  pub number : q.logs ≡ p.logs + assortment_logs_in a x
  pub unbought : q.unbought + assortment_logs_in a bought ≡ p.unbought + assortment_logs_in a x
  pub cubic : q.volume ≡ p.volume + part_volume_in a x
  pub money : q.worth ≡ p.worth + part_at_base_in own a bought

pub record AreEachPaidWith (own : InstructionParts) (x bought : Posting) (before after : List Paid) : Type 0 where
  pub same_number : length after ≡ length before
  pub each : (a : ℕ) (p q : Paid) → slice_get before a ≡ Some p → slice_get after a ≡ Some q
      → IsPaidWith own a x bought p q

-- a posting was added to its assortments: what it comes to
pub record IsAccounted (own : InstructionParts) (x : Posting) (cut cut_after best best_after : List Paid) (a : Account)
    : Type 0 where
  pub bought : Posting
  pub best_of : Posting
  pub is_bought : IsBought own x bought
  pub is_best : IsUnsteered own x best_of
  pub alone : IsAccount own (x ∷ []) (bought ∷ []) (best_of ∷ []) a
  pub as_cut : AreEachPaidWith own x bought cut cut_after
  pub at_best : AreEachPaidWith own best_of best_of best best_after
  pub few : (logs_in x ≤ 80) × (logs_in best_of ≤ 80)

-- so many postings were passed at most
pub record IsLow (most : ℕ) (p : Appraisal) : Type 0 where
  pub whole : p.total.stems ≤ most
  pub owns : (h : ℕ) → IfSome (get nat_cmp p.harvesters h) (λ a. a.stems ≤ most)
  pub as_cut : AreFew (80 * most) p.assortments.items
  pub at_best : AreFew (80 * most) p.best_assortments.items

-- these postings were passed
pub record ArePassed (own : InstructionParts) (ps : List Posting) (p : Appraisal) : Type 0 where
  pub appraisal : IsAppraisal own ps p
  pub low : IsLow (length ps) p

-- there is room for more
pub record HasRoom (own : InstructionParts) (more : List Posting) (p : Appraisal) : Type 0 where
  pub before : List Posting
  pub passed : ArePassed own before p
  pub few : length before + length more ≤ MOST_POSTINGS

-- What some postings of a journal come to.
use Rattle.std.specs.Prelude.{◌≡◌, ℕ, ◌*◌, ◌<◌, List, [], ◌∷◌, ◌++◌, length}
use Rattle.buck_apt_instruction.specs.Instruction.{InstructionParts}
use Rattle.buck_book_postings.specs.declared.posting.Posting.{Posting}
use Rattle.buck_page_figures.specs.Figures.{AreUnsteered}
use Rattle.buck_page_figures.specs.Assorted.{AreParts}
use Rattle.buck_page_figures.specs.Greatest.{lengths_of, costs_of}
use Rattle.buck_page_figures.specs.inner.Tally.{IsTally, AreAtMost}
use Rattle.buck_page_figures.specs.inner.Assorted.{AreFew}
use Rattle.buck_page_figures.specs.inner.Greatest.{IsGreatest}
use Rattle.buck_page_figures.specs.declared.account.Account.{Account}
use Rattle.buck_book_postings.specs.declared.posting.TheConstants.{MOST_POSTINGS}

-- what some postings, and the same unsteered, come to
pub record IsAccount (i : InstructionParts) (ps us : List Posting) (a : Account) : Type 0 where
  pub are_unsteered : AreUnsteered i ps us
  pub tally : IsTally i ps us a.tally
  pub counts_low : AreAtMost (80 * length ps) a.tally.counts.items
  pub unsteered_low : AreAtMost (80 * length ps) a.tally.unsteered.items
  pub parts : AreParts i ps a.parts.items
  pub parts_few : AreFew (80 * length ps) a.parts.items
  pub unsteered_parts : AreParts i us a.unsteered_parts.items
  pub unsteered_parts_few : AreFew (80 * length ps) a.unsteered_parts.items
  pub longest : IsGreatest (lengths_of ps) a.longest
  pub dearest : IsGreatest (costs_of i ps us) a.dearest

-- with one posting more
pub record IsAccountWith (i : InstructionParts) (ps us : List Posting) (x : Posting) (a : Account) : Type 0 where
  pub unsteered : Posting
  pub account : IsAccount i (ps ++ x ∷ []) (us ++ unsteered ∷ []) a

-- some postings to which one may be added, at this place, come to it
pub record GoesOn (i : InstructionParts) (at : ℕ) (a : Account) : Type 0 where
  pub postings : List Posting
  pub unsteered : List Posting
  pub at_is : length postings ≡ at
  pub few : at < MOST_POSTINGS
  pub account : IsAccount i postings unsteered a

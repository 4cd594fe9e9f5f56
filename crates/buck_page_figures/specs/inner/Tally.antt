-- What all postings come to.
use Rattle.std.specs.Prelude.{◌≡◌, ℕ, ◌<◌, ◌≤◌, List, [], ◌∷◌, ◌++◌, slice_index}
use Rattle.buck_apt_instruction.specs.Instruction.{InstructionParts}
use Rattle.buck_book_postings.specs.declared.posting.Posting.{Posting}
use Rattle.buck_book_postings.specs.Counts.{AreClassCounts}
use Rattle.buck_value.specs.declared.log.Log.{Log}
use Rattle.buck_page_figures.specs.Figures.{IsUnsteered}
use Rattle.buck_page_figures.specs.inner.Adding.{logs_of}
use Rattle.buck_page_figures.specs.Sums.{AreSums}
use Rattle.buck_page_figures.specs.Owns.{AreOwns}
use Rattle.buck_page_figures.specs.declared.sums.Sums.{Sums}
use Rattle.buck_page_figures.specs.declared.tally.Tally.{Tally}
use Rattle.buck_book_postings.specs.declared.posting.TheConstants.{MOST_POSTINGS}

-- the sums over some postings, and over the same unsteered: of all, and of each harvester's
pub record IsTally (i : InstructionParts) (ps us : List Posting) (t : Tally) : Type 0 where
  pub total : AreSums i ps us t.total
  pub owns : AreOwns i ps us t.owns
  pub counts : AreClassCounts i ps t.counts.items
  pub unsteered : AreClassCounts i us t.unsteered.items

-- with one posting more, what that one comes to, and the logs of its stem cut best at base prices
pub record IsTallyWith (i : InstructionParts) (ps us : List Posting) (x : Posting) (s : Sums) (logs : List Log)
    (t : Tally) : Type 0 where
  pub unsteered : Posting
  pub is_unsteered : IsUnsteered i x unsteered
  pub logs_are : logs ≡ logs_of unsteered
  pub sums : AreSums i (x ∷ []) (unsteered ∷ []) s
  pub tally : IsTally i (ps ++ x ∷ []) (us ++ unsteered ∷ []) t

-- no class has more logs than this
abbrev pub AreAtMost : ℕ → List ℕ → Type 0
AreAtMost most counts = (p : ℕ) → slice_index counts p ≤ most

-- there is room for one more
pub record IsBelow (s : Sums) : Type 0 where
  pub stems : s.stems < MOST_POSTINGS
  pub demands : s.demands < MOST_POSTINGS

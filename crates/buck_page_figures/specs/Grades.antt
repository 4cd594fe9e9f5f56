-- What stems are worth by their best cuttings at base prices, of all and of each harvester; under the instruction of
-- which every assortment takes every grade, what they are worth without grades.
use Rattle.std.specs.Prelude.{◌≡◌, ℕ, ◌<◌, List, Option, Some, None, sum_by}
use Rattle.std.specs.Ordering.{nat_cmp}
use Rattle.std.specs.BTreeMap.{get}
use Rattle.buck_apt_instruction.specs.Instruction.{InstructionParts}
use Rattle.buck_book_postings.specs.declared.posting.Posting.{Posting}
use Rattle.buck_page_figures.specs.Figures.{AreUnsteered, cuts_in, worth_in}
use Rattle.buck_page_figures.specs.Owns.{own_of}
use Rattle.buck_page_figures.specs.declared.free.Free.{Free}
use Rattle.buck_page_figures.specs.declared.free.GradeFree.{GradeFree}

-- of some postings, what is kept of a harvester: what its stems are worth, if it has a cut
abbrev pub IsWorthOf : ℕ → List Posting → Option Free → Type 0
IsWorthOf h best None = sum_by cuts_in (own_of h best) ≡ 0
IsWorthOf h best (Some own) = (0 < sum_by cuts_in (own_of h best)) × (own.worth ≡ sum_by worth_in (own_of h best))

-- of some postings, given the same with the first best cutting at base prices of each stem
pub record AreBestWorths (i : InstructionParts) (ps : List Posting) (g : GradeFree) : Type 0 where
  pub best : List Posting
  pub are_best : AreUnsteered i ps best
  pub total : g.total.worth ≡ sum_by worth_in best
  pub harvesters : (h : ℕ) → IsWorthOf h best (get nat_cmp g.harvesters h)

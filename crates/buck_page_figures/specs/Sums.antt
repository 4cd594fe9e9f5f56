-- What postings come to, added up.
use Rattle.std.specs.Prelude.{◌≡◌, List, sum_by}
use Rattle.buck_apt_instruction.specs.Instruction.{InstructionParts}
use Rattle.buck_book_postings.specs.declared.posting.Posting.{Posting}
use Rattle.buck_page_figures.specs.Figures.{cuts_in, demands_in, logs_in, volume_in, length_in, logged_in, trim_in, worth_in, at_base_in}
use Rattle.buck_page_figures.specs.declared.sums.Sums.{Sums}

-- the sums over some postings, and over the same unsteered
pub record AreSums (i : InstructionParts) (ps us : List Posting) (s : Sums) : Type 0 where
  pub stems : s.stems ≡ sum_by cuts_in ps
  pub demands : s.demands ≡ sum_by demands_in ps
  pub logs : s.logs ≡ sum_by logs_in ps
  pub volume : s.volume ≡ sum_by volume_in ps
  pub length : s.length ≡ sum_by length_in ps
  pub logged : s.logged ≡ sum_by logged_in ps
  pub trim : s.trim ≡ sum_by (trim_in i) ps
  pub worth : s.worth ≡ sum_by worth_in ps
  pub at_base : s.at_base ≡ sum_by (at_base_in i) ps
  pub best : s.best ≡ sum_by worth_in us

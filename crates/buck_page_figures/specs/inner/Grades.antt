-- What stems are worth, with one more.
use Rattle.std.specs.Prelude.{◌≡◌, ℕ, ◌+◌, ◌≤◌, ◌^◌, All, List, Option, Some, None, length}
use Rattle.buck_apt_instruction.specs.Instruction.{InstructionParts}
use Rattle.buck_book_postings.specs.declared.posting.Posting.{Posting}
use Rattle.buck_book_postings.specs.declared.posting.TheConstants.{MOST_POSTINGS}
use Rattle.buck_page_figures.specs.Figures.{worth_in}
use Rattle.buck_page_figures.specs.Grades.{AreBestWorths}
use Rattle.buck_page_figures.specs.declared.free.Free.{Free}
use Rattle.buck_page_figures.specs.declared.free.GradeFree.{GradeFree}

-- what a harvester's stems are worth so far
abbrev pub worth_so_far : Option Free → ℕ
worth_so_far None = 0
worth_so_far (Some own) = own.worth

-- what is kept of a harvester with a stem more
abbrev pub IsWithStem : Option Free → ℕ → Option Free → Type 0
IsWithStem before worth None = ⊥
IsWithStem before worth (Some own) = own.worth ≡ worth_so_far before + worth

-- the postings passed, none of which is worth too much
pub record ArePassed (i : InstructionParts) (ps : List Posting) (g : GradeFree) : Type 0 where
  pub worths : AreBestWorths i ps g
  pub low : All (λ u. worth_in u ≤ 2 ^ 64) worths.best

-- there is room for more
pub record HasRoom (i : InstructionParts) (more : List Posting) (g : GradeFree) : Type 0 where
  pub before : List Posting
  pub passed : ArePassed i before g
  pub few : length before + length more ≤ MOST_POSTINGS

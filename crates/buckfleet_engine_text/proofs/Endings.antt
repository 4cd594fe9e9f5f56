-- The report of a history, by its parts.
use Rattle.std.proofs.Common.{◌≡◌, ℕ, List, ◌∙◌}
use Rattle.buck_apt_instruction.specs.Instruction.{InstructionParts}
use Rattle.buck_book_postings.specs.declared.posting.Posting.{Posting}
use Rattle.buck_book_postings.specs.Posting.{targets_of}
use Rattle.buck_book_postings.specs.Counts.{AreClassCounts}
use Rattle.buck_book_postings.specs.History.{HistoryParts, in_force}
use Rattle.buckfleet_engine_text.specs.Report.{IsReport, report_of}

pub reported : (h : HistoryParts) (i : InstructionParts) (ps : List Posting) (targets counts prices text : List ℕ)
    → i ≡ h.instruction → ps ≡ h.postings → targets ≡ targets_of h.instruction h.postings
    → AreClassCounts h.instruction h.postings counts → prices ≡ (in_force h).prices
    → text ≡ report_of ps (record { instruction = i; targets = targets; counts = counts; prices = prices })
    → IsReport h text
reported h i ps targets counts prices text i_is ps_are targets_are counted prices_are is = record {
  counts = counts;
  are_counts = counted;
  text_is = is ∙ (λ t. report_of (ps_are t)
      (record { instruction = i_is t; targets = targets_are t; counts = counts; prices = prices_are t }));
}

-- What the line of a run says of its history.
use Rattle.buckfleet_trial_sweep.proofs.Words.{◌≡◌, ℕ, List, [], ◌∷◌, Option, sym, ap, ◌∙◌, same_Some, InstructionParts, targets_of, history_of, Degrees, Assorted, IsLeast, IsLine, wholes_of, AreAllDegrees, line_by, versions_of}
use Rattle.buck_book_journal.specs.Journal.{JournalParts}
use Rattle.buck_page_figures.specs.declared.figures.Figures.{Figures}
use Rattle.buck_page_figures.specs.Shown.{AreFigures}
use Rattle.buck_rule.specs.declared.named.NamedRule.{NamedRule}
use Rattle.buckfleet_trial_sweep.specs.Table.{line_of}

-- the line that is made of the figures of a journal says what it is to say of its history
pub is_line : (rule : NamedRule) (i : InstructionParts) (j : JournalParts) (f : Figures) (degrees : List Degrees)
    (least : Option ℕ) (line : List ℕ)
    → AreFigures i (j ∷ []) f → AreAllDegrees f.instruction.now f.targets.value.items f.counts.items degrees
    → IsLeast (wholes_of degrees) least → line ≡ line_by rule f degrees least → IsLine rule (history_of i j) line
unfolding line_of
is_line rule i j f degrees least line figures by is_least is =
    let targets : f.targets.value.items ≡ targets_of i j.entries = figures.targets
    ∙ ap (λ (x : JournalParts). targets_of i x.entries) (sym (same_Some j figures.last figures.is_last)) in
    let given : AreAllDegrees i (targets_of i j.entries) f.counts.items degrees =
    (rw (figures.instruction, targets) at by) in
    let all : Assorted = record {
      degrees = degrees;
      least = least;
      cut = f.assortments.items;
      unsteered = f.unsteered_assortments.items;
    } in
    let text : line_by rule f degrees least ≡ line_of rule (history_of i j) all f.total.best =
    cc (figures.instruction, ap versions_of figures.journals, figures.total.at_base, figures.total.volume) in
    record {
      assorted = all;
      unsteered = figures.without;
      are_degrees = record {
        counts = f.counts.items;
        are_counts = figures.counts;
        one_each = given.one_each;
        each = given.each;
      };
      is_least = is_least;
      are_unsteered = figures.are_unsteered;
      are_parts = figures.assortments;
      are_unsteered_parts = figures.unsteered_assortments;
      line_is = is ∙ text ∙ ap (line_of rule (history_of i j) all) figures.total.best;
    }

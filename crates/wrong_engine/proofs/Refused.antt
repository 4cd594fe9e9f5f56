-- An input that ends within its only line.
use Rattle.std.proofs.Common.{◌≡◌, ℕ, List, [], ◌∷◌, Option, Some, None, Ok, codes, sym, subst, ◌∙◌, append-nil}
use Rattle.buck_book_postings.specs.History.{HistoryParts}
use Rattle.buckfleet_live.specs.Answers.{AnswersAll}
use Rattle.buckfleet_live.specs.Live.{IsLiveRun}

only_line : (before after : HistoryParts) (text : List ℕ) → AnswersAll before (None ∷ []) text after → after ≡ before
only_line before after text (between, first, rest, one, last, is) = last.1 ∙ one.1

-- the history is as before
pub cut_off : (before after : HistoryParts) (old new : Option (List ℕ))
    → IsLiveRun before (Some (codes "951 1 7")) old new (Ok tt) after → after ≡ before
cut_off before after old new run =
    only_line before after run.text
    (subst (λ (lines : List (Option (List ℕ))). AnswersAll before lines run.text after)
    (sym (run.read ∙ append-nil run.lines)) run.answers)

use Rattle.std.proofs.Common.{subst, List, ℕ}
use Rattle.buck_record.specs.Reading.{listed}
use Rattle.std.specs.List.{after_first, before_first}
use Rattle.buckfleet_engine.specs.run.Bucking.{is_bar}
use Rattle.buckfleet_engine.specs.inner.Reading.{AnswersBytes}
use Rattle.buckfleet_engine.proofs.Parts.{bare_answer}
use Rattle.buckfleet_engine.proofs.run.bucking.text_of_one.Goals as goal

pub returns : goal.returns
returns g c =
    bare_answer _ _ _ c.in_ok-input.ensures.whole c.in_ok-input.ensures.limit
    (subst (λ (bytes : List ℕ). AnswersBytes (before_first is_bar bytes) (after_first is_bar bytes)
    (listed c.text_of_parts.result)) c.as_slice.ensures.value c.text_of_parts.ensures)

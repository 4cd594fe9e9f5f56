use Rattle.std.proofs.Common.{◌≡◌, ◌∙◌}
use Rattle.buck_value.specs.Allowed.{end_of}
use Rattle.buck_dp.specs.Best.{IsFirstBest, cutting_worth}
use Rattle.buckfleet_engine_text.proofs.TextLemmas.{all_allowed, stem_put}
use Rattle.buckfleet_engine_text.proofs.bucking.put_cut.Goals as goal

pub put_logs-requires : goal.put_logs-requires
put_logs-requires c =
    let sheet : c.deref.result.now ≡ c.args.planner.now = c.deref.ensures ∙ c.sheet.ensures
    ∙ c.in_ok-cutting.ensures.same in
    let first : IsFirstBest c.args.planner.now c.args.stem.now c.in_ok-cutting.cutting.logs.items =
    c.in_ok-cutting.ensures.first in
    rw (sheet, c.as_slice-logs.ensures.value)
    (all_allowed _ (end_of c.args.planner.now.instruction) 0 _ first.best.admissible)

pub returns-clause-put : goal.returns-clause-put
returns-clause-put c =
    let sheet : c.deref.result.now ≡ c.args.planner.now = c.deref.ensures ∙ c.sheet.ensures
    ∙ c.in_ok-cutting.ensures.same in
    let first : IsFirstBest c.args.planner.now c.args.stem.now c.in_ok-cutting.cutting.logs.items =
    c.in_ok-cutting.ensures.first in
    let worth : c.in_ok-cutting.worth
    ≡ cutting_worth c.args.planner.now c.args.stem.now c.in_ok-cutting.cutting.logs.items =
    c.in_ok-cutting.ensures.worth in
    stem_put _ _ c.as_slice-logs.result.now _ _ _ _
    (rw c.as_slice-logs.ensures.value first)
    (rw c.as_slice-logs.ensures.value worth)
    c.in_ok-put_stem.ensures
    (rw sheet at c.in_ok-put_logs.ensures)

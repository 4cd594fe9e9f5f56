use Rattle.std.proofs.Common.{rules, ◌≡◌, ◌∙◌, ℕ, List, [], Some, Ok, sym, subst}
use Rattle.buckfleet_engine_files.specs.Ruled.{FollowsRule}
use Rattle.buck_book_cutter.specs.Cut.{opening}
use Rattle.buckfleet_live.specs.Live.{IsLiveRun}
use Rattle.wrong_engine.proofs.Ruled.{answered}
use Rattle.wrong_engine.proofs.requests.task_by_another_rule.Goals as goal

pub prove-unreachable-requires : goal.prove-unreachable-requires
prove-unreachable-requires g c =
    let runs = c.serve_live-outcome.ensures in
    let same : c.serve_live-outcome.new.out.items ≡ c.args.wrong.now = search rules in
    let by =
    answered _ _ _ _ _ _ _ _ _ _ _ _ runs (sym c.conclude-status.ensures.status ∙ c.if-status-eq0.true) in
    let Run = λ (old new : List ℕ). IsLiveRun (opening by.0) (Some c.args.requests.now) (Some old) (Some new) (Ok tt) by.1 in
    c.requires.other by.0 by.1 (subst (λ r. FollowsRule r by.1) c.requires.rule by.2)
    (subst (λ (new : List ℕ). Run [] new) same
    (subst (λ (old : List ℕ). Run old c.serve_live-outcome.new.out.items) c.new-right.ensures.items by.3))

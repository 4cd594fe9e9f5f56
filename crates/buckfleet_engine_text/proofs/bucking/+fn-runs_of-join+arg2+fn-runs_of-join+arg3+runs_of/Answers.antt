use Rattle.std.proofs.Common.{rules, ◌*◌, ◌/◌, take, drop}
use Rattle.buckfleet_engine_text.specs.inner.Text.{AreRunsOf}
use Rattle.buckfleet_engine_text.proofs.TextLemmas.{runs_put}
use Rattle.buckfleet_engine_text.proofs.bucking.+fn-runs_of-join+arg2+fn-runs_of-join+arg3+runs_of.Goals as goal

pub returns : goal.returns
returns g t c =
    let sheet = c.args.sheet.now.value in
    let stems = c.args.stems.items in
    let at = c.len.result / c.args.threads * (c.args.threads / 2) in
    let first : AreRunsOf sheet (take at stems) c.in_ok-runs.runs = search rules in
    let second : AreRunsOf sheet (drop at stems) c.in_ok-more.more = search rules in
    rw (c.in_ok-put_runs.ensures.logs, c.in_ok-put_runs.ensures.worth)
    (runs_put sheet stems at _ _ _ _ _ _ _ first second c.in_ok-put_runs.ensures.texts)

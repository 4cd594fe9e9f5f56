use Rattle.std.proofs.Common.{map}
use Rattle.buckfleet_proceeds.proofs.Stopped.{compare_stopped}
use Rattle.buckfleet_proceeds.proofs.comparing.run_compare.Goals as goal

pub returns-in_err-text : goal.returns-in_err-text
returns-in_err-text g c =
    let held = g.R.Read.remaining in
    compare_stopped c.args.task.now (held c.args.apt.now) (map held c.args.journals.now)
    (g.W.Write.contents c.args.out.now) c.in_err-text.field-0.0 c.from_residual.result c.from_residual.ensures.1
    c.in_err-text.ensures

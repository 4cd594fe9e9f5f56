use Rattle.std.proofs.Common.{map}
use Rattle.buckfleet_proceeds.proofs.Stopped.{appraise_stopped}
use Rattle.buckfleet_proceeds.proofs.appraised.run_appraise.Goals as goal

pub returns-in_err-text : goal.returns-in_err-text
returns-in_err-text g c =
    let held = g.R.Read.remaining in
    let files = c.args.files in
    appraise_stopped c.args.settings.now (held files.apt) (map held files.journals.items) (held files.own.0, files.own.1)
    (g.W.Write.contents c.args.out.now) c.in_err-text.field-0.0 c.from_residual.result c.from_residual.ensures.1
    c.in_err-text.ensures

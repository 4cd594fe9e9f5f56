use Rattle.buckfleet_trial_owned.proofs.Opening.{owned_not_served}
use Rattle.buckfleet_trial_owned.proofs.owned.serve_owned.Goals as goal

pub returns-in_err-files : goal.returns-in_err-files
returns-in_err-files g c =
    owned_not_served g.O.Open.opens g.O.File.Read.remaining c.args.opener.now c.open_owned.new.opener c.args.task.now
    (g.W.Write.contents c.args.out.now) _ c.from_residual.result c.from_residual.ensures.1 c.in_err-files.ensures

use Rattle.std.proofs.Common.{map}
use Rattle.buckfleet_engine_files.specs.Reading.{apt_with}
use Rattle.buckfleet_engine_page.proofs.Several.{nothing_of_task}
use Rattle.buckfleet_engine_page.proofs.showing.show_opened.Goals as goal

pub returns-in_err-several : goal.returns-in_err-several
returns-in_err-several g c =
    nothing_of_task (apt_with c.args.task.now.settings) c.args.task.now.shown (g.R.Read.remaining c.args.apt.now)
    (map g.R.Read.remaining c.args.files.now) (g.W.Write.contents c.args.writer.now) c.in_err-several.field-0.0
    c.from_residual.result c.from_residual.ensures.1 c.in_err-several.ensures.refused

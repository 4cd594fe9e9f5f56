use Rattle.buckfleet_engine.proofs.BarLemmas.{before-found, before-none}
use Rattle.buckfleet_engine.proofs.run.bucking.apt_part.Goals as goal

pub returns-in-None : goal.returns-in-None
returns-in-None c = before-none c.args.input.now c.in-None.ensures

pub returns-in-Some : goal.returns-in-Some
returns-in-Some c = before-found c.args.input.now c.in-Some.at c.in-Some.ensures

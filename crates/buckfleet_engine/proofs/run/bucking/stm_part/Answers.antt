use Rattle.buckfleet_engine.proofs.BarLemmas.{after-found, after-none}
use Rattle.buckfleet_engine.proofs.run.bucking.stm_part.Goals as goal

pub returns-in-None : goal.returns-in-None
returns-in-None c = after-none c.args.input.now c.in-None.ensures

pub returns-in-Some : goal.returns-in-Some
returns-in-Some c = after-found c.args.input.now c.in-Some.at c.in-Some.ensures

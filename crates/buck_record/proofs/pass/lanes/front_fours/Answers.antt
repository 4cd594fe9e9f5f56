use Rattle.buck_record.proofs.FourLemmas.{some_fronts}
use Rattle.buck_record.proofs.pass.lanes.front_fours.Goals as goal

pub returns : goal.returns
returns c = some_fronts c.args.text.now c.if-text-lt16.false c.type_inv.text c.four_threes.result c.four_threes.ensures

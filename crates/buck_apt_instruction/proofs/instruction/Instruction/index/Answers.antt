use Rattle.buck_apt_instruction.proofs.PlaceLemmas.{index_within}
use Rattle.buck_apt_instruction.proofs.instruction.Instruction.index.Goals as goal

pub returns-clause-within : goal.returns-clause-within
returns-clause-within c = rw c.place.ensures (index_within c.args.self.now c.args.class c.requires)

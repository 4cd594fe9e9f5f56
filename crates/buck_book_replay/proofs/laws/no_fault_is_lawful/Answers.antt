use Rattle.buck_book_replay.proofs.NoFault.{lawful_without}
use Rattle.buck_book_replay.proofs.laws.no_fault_is_lawful.Goals as goal

pub returns : goal.returns
returns c = λ h v none. lawful_without h none v

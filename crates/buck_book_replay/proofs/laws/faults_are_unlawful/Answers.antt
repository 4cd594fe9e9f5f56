use Rattle.buck_book_replay.proofs.Faults.{no_first_fault}
use Rattle.buck_book_replay.proofs.laws.faults_are_unlawful.Goals as goal

pub returns : goal.returns
returns c = λ h fault v wrong l. no_first_fault h v l fault wrong

use Rattle.std.proofs.Common.{rules}
use Rattle.buck_board.proofs.Fronts.{read_keeps}
use Rattle.buck_board.proofs.front.Front.read.Goals as goal

pub load-version-requires : goal.load-version-requires
load-version-requires c = (search rules, search rules, read_keeps _ _ _)

use Rattle.std.proofs.Common.{arith, rules}
use Rattle.buck_board.proofs.Fronts.{raise_keeps}
use Rattle.buck_board.proofs.front.Front.raise.Goals as goal

pub fetch_max-found-requires : goal.fetch_max-found-requires
fetch_max-found-requires c = (search rules, search rules, raise_keeps _ _ _ _ (omega arith))

use Rattle.std.proofs.Common.{rules}
use Rattle.buck_board.proofs.Fronts.{split_keeps}
use Rattle.buck_board.proofs.front.Front.another.Goals as goal

pub split_seat-place-requires : goal.split_seat-place-requires
split_seat-place-requires c = (search rules, search rules, split_keeps _ _)

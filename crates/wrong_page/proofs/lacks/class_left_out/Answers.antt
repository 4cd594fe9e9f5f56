use Rattle.std.proofs.Common.{◌≡◌, length, rules}
use Rattle.wrong_page.proofs.Shortest.{not_left_out}
use Rattle.wrong_page.proofs.lacks.class_left_out.Goals as goal

pub prove-unreachable-requires : goal.prove-unreachable-requires
prove-unreachable-requires c =
    let f = c.args.figures.now in
    let none : length c.in-Ok.found.items ≡ 0 = search rules in
    not_left_out f.instruction.now f.targets.value.items f.counts.items c.in-Ok.found.items c.requires
    c.in-Ok.ensures.each_once none

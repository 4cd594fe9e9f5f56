use Rattle.std.proofs.Common.{◌≡◌, length, true, rules}
use Rattle.wrong_page.proofs.Postings.{told_true}
use Rattle.wrong_page.proofs.Shortest.{none_lacks}
use Rattle.wrong_page.proofs.lacks.enough_told_as_lacking.Goals as goal

pub prove-unreachable-requires : goal.prove-unreachable-requires
prove-unreachable-requires c =
    let f = c.args.figures.now in
    let none : length c.in-Ok.found.items ≡ 0 =
    none_lacks f.instruction.now f.targets.value.items f.counts.items f.unsteered.items c.in-Ok.found.items c.requires
    c.in-Ok.ensures.each_lacks in
    let is_empty : c.is_empty-right.result ≡ true = search rules in
    told_true c.is_empty-right.result is_empty c.if-prove.true

use Rattle.std.proofs.Common.{◌<◌, arith}
use Rattle.std.proofs.lemmas.Bool.{ltb-true}
use Rattle.wrong_page.proofs.Postings.{found_there, told_false}
use Rattle.wrong_page.proofs.Shortest.{no_more_behind}
use Rattle.wrong_page.proofs.lacks.least_first.Goals as goal

pub prove-unreachable-requires : goal.prove-unreachable-requires
prove-unreachable-requires c =
    let found = c.in-Ok.found.items in
    let l = c.in-Some.first.now in
    let m = c.in-Some-get.second.now in
    let first =
    found_there found c.deref.result.now 0 l c.deref.ensures.value c.in-Some.ensures.lookup.0 c.in-Some.ensures.lookup.1 in
    let second =
    found_there found c.deref-2.result.now 1 m c.deref-2.ensures.value c.in-Some-get.ensures.lookup.0
    c.in-Some-get.ensures.lookup.1 in
    let le =
    no_more_behind c.args.figures.now.instruction.now found l m c.in-Ok.ensures.most_first first second
    c.if-first-second.false in
    told_false _
    (λ so.
    let lt : c.tenths.result < c.tenths-2.result = ltb-true _ _ so in
    omega (arith, lt, le, c.tenths.ensures, c.tenths-2.ensures))
    c.if-prove.true

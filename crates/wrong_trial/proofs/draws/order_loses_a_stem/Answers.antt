use Rattle.std.proofs.Common.{◌≡◌, ◌<◌, arith, length, rules, sym}
use Rattle.std.specs.Arc.{arc_value}
use Rattle.wrong_trial.proofs.Orders.{as_many}
use Rattle.wrong_trial.proofs.draws.order_loses_a_stem.Goals as goal

pub prove-unreachable-requires : goal.prove-unreachable-requires
prove-unreachable-requires c =
    let lt : c.args.file < length c.in-Ok.right.items = search rules in
    let lt_too : c.args.file < length c.args.lists.now = search rules in
    let same = as_many (λ l. l.items) arc_value c.args.state c.args.file c.args.lists.now c.in-Ok.right.items
    c.index.result.now c.index-lists-file.result c.in-Ok.ensures lt lt_too in
    let right : c.len-then-file-len.result ≡ length c.index.result.now.items = search rules in
    let wrong : c.len-then-file-len-2.result ≡ length c.index-lists-file.result.items = search rules in
    omega (arith, c.if-prove.true, right, wrong, rw (sym c.index.ensures, sym c.index-lists-file.is) at same)

use Rattle.std.proofs.Common.{◌<◌, ◌≤◌, length, sym, ◌∙◌, rules}
use Rattle.buckfleet_terms_files.proofs.Lists.{lists_are, lists_stop, passed, read_all, read_more, read_stop}
use Rattle.buckfleet_terms_files.proofs.wanted.lists_in.Goals as goal

pub returns-in-Err-Head : goal.returns-in-Err-Head
returns-in-Err-Head c = λ other.
    lists_stop c.args.bytes.now c.in-Err-Head.field-0 _ (cc (c.in-Err-Head.field-0-is, c.in-Err-Head.item-is))
    (c.in-Err-Head.ensures (λ same. cc))

pub returns-in_err-numbers : goal.returns-in_err-numbers
returns-in_err-numbers c =
    let items = c.in-Ok.items.items in
    let lt : c.loop-list.list < length items = search rules in
    passed _ _ _ _ c.from_residual.ensures.1
    (λ other. lists_are c.args.bytes.now items c.in-Ok.ensures ∙ sym c.loop-list.invariant
    ∙ read_stop c.loop-list.lists.items c.loop-list.list items c.index.result.now _ lt c.index.ensures
    (c.in_err-numbers.ensures other))

pub loop-list-preserved : goal.loop-list-preserved
loop-list-preserved c =
    let items = c.in-Ok.items.items in
    let lt : c.loop-list.list < length items = search rules in
    rw (c.in_ok-push.ensures.items, c.of.ensures)
    (sym (read_more c.loop-list.lists.items c.loop-list.list items c.index.result.now _ lt c.index.ensures
    c.in_ok-numbers.ensures) ∙ c.loop-list.invariant)

pub returns : goal.returns
returns c =
    let items = c.in-Ok.items.items in
    let le : length items ≤ c.loop-list.list = search rules in
    lists_are c.args.bytes.now items c.in-Ok.ensures ∙ sym c.loop-list.invariant
    ∙ read_all c.loop-list.lists.items c.loop-list.list items le

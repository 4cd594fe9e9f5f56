use Rattle.std.proofs.Common.{rules}
use Rattle.buck_stem.specs.inner.Plain.{HasStems}
use Rattle.buck_stem.proofs.PlainLemmas.{stems_join}
use Rattle.buck_stem.proofs.parallel.+fn-stems_in_parts-join+arg2+fn-stems_in_parts-join+arg3+stems_in_parts.Goals as goal

pub returns : goal.returns
returns g t c =
    let front = c.in-Some.front.now in
    let back = c.in-Some.back.now in
    let first : HasStems front c.in_ok-stems.stems.items = search rules in
    let second : HasStems back c.in_ok-more.more.items = search rules in
    rw c.in_ok-put_behind.ensures
    (stems_join c.args.body.now front back c.in_ok-stems.stems.items c.in_ok-more.more.items c.in-Some.ensures.joins first
    second)

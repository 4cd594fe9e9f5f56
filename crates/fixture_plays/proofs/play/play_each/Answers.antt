use Rattle.fixture_plays.proofs.play.play_each.Goals as goal

pub returns-clause-each : goal.returns-clause-each
returns-clause-each g c = λ i d lt.
    let ch = (c.for_each_mut.ensures i d lt).1 in
    let r = ch.call in
    rw (← ch.argument_is, ← ch.left) r

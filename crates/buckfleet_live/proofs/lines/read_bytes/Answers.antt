use Rattle.buckfleet_live.proofs.Words.{rules, length, ap, arith, length-take}
use Rattle.buckfleet_live.proofs.LineLemmas.{feed_comes, input_ends, one_more}
use Rattle.buckfleet_live.proofs.lines.read_bytes.Goals as goal

pub returns-in-Ok-None-clause-read : goal.returns-in-Ok-None-clause-read
returns-in-Ok-None-clause-read g c =
    input_ends _ _ (g.R.Read.remaining c.next_byte.new.input) _ c.bytes.invariant.read (search rules)

pub returns-in-Ok-Some-eq10-clause-read : goal.returns-in-Ok-Some-eq10-clause-read
returns-in-Ok-Some-eq10-clause-read g c =
    feed_comes _ _ (g.R.Read.remaining c.next_byte.new.input) _ c.bytes.invariant.read (search rules)

pub hold-requires-clause-few : goal.hold-requires-clause-few
hold-requires-clause-few g c =
    let read = c.bytes.invariant.read in
    omega (arith, ap length read.held_is, length-take 1048577 read.bytes)

pub bytes-preserved : goal.bytes-preserved
bytes-preserved g c = record {
  capacity = search rules;
  read = one_more (g.R.Read.remaining c.args.input.now) _ (g.R.Read.remaining c.next_byte.new.input) _ _
      c.in-Ok-Some.byte c.in-Ok-Some.byte-test.1 c.bytes.invariant.read (search rules) c.hold.ensures.held;
}

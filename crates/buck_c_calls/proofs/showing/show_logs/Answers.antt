use Rattle.std.proofs.Common.{◌∙◌, arith}
use Rattle.std.proofs.lemmas.List.{length-set}
use Rattle.std.proofs.lemmas.Option.{slice_get_within, slice_get-get_or}
use Rattle.buck_c_calls.proofs.Cuttings.{shown_more}
use Rattle.buck_c_calls.proofs.showing.show_logs.Goals as goal

pub loop-k-preserved : goal.loop-k-preserved
loop-k-preserved c = (
  length-set c.loop-k.out c.loop-k.k c.shown.result ∙ c.loop-k.invariant.0,
  shown_more c.args.sheet.now c.args.stem.now c.args.logs.now c.loop-k.out c.loop-k.k c.shown.result _
      (omega (arith, c.loop-k.invariant.0, c.loop-k-test.true, c.requires.few))
      (slice_get-get_or c.args.logs.now c.loop-k.k _ c.loop-k-test.true)
      c.shown.ensures c.loop-k.invariant.1,
)

pub returns : goal.returns
returns c =
    λ k g d is. c.loop-k.invariant.1 k g d (omega (arith, c.loop-k-test.false, slice_get_within c.args.logs.now k g is))
    is

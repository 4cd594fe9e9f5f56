use Rattle.std.proofs.Common.{arith, slice_index}
use Rattle.std.proofs.lemmas.Grind.{common_steps}
use Rattle.std.proofs.lemmas.List.Folds.{list_any-append}
use Rattle.buckfleet_notes.proofs.notes.first_again.Goals as goal

pub loop-place-preserved : goal.loop-place-preserved
loop-place-preserved c = record {
  apart = λ k below. grind (
    arith,
    common_steps,
    c.loop-place.invariant.apart k,
    c.loop-place.invariant.seen (slice_index c.args.numbers.now c.loop-place.place),
  );
  seen = λ n. grind (arith, common_steps, list_any-append, c.loop-place.invariant.seen n);
}

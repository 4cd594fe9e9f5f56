use Rattle.std.proofs.KnownBytes.{Appends-trans}
use Rattle.buckfleet_engine_files.proofs.WrittenLemmas.{fits, taken}
use Rattle.buckfleet_engine_files.proofs.writing.write_text.Goals as goal

pub loop-preserved : goal.loop-preserved
loop-preserved g c =
    let text = c.args.text.now in
    let at = c.loop.at in (
      rw (← taken text at c.in-Ok.count c.loop.invariant.1 c.in-Ok.ensures.bound)
          (Appends-trans _ _ _ _ _ c.loop.invariant.0 c.in-Ok.ensures.bytes),
      fits text at c.in-Ok.count c.loop.invariant.1 c.in-Ok.ensures.bound,
    )

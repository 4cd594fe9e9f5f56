-- The lines of the stems are the same, and the total differs.
use Rattle.std.proofs.Common.{rules, ◌≡◌}
use Rattle.buckfleet_engine_text.specs.Bucking.{IsBuckText}
use Rattle.wrong_engine.proofs.Unlike.{unlike_back}
use Rattle.wrong_engine.proofs.texts.worth_of_the_last_stem_alone.Goals as goal

pub prove-unreachable-requires : goal.prove-unreachable-requires
prove-unreachable-requires c =
    let same : c.in-Ok.right.items ≡ c.args.wrong.now = search rules in
    let text : IsBuckText c.args.instruction.now c.args.stems.now c.in-Ok.right.items = c.in-Ok.ensures in
    unlike_back _ _ _ _ _ text.lines (c.requires.wrong text.cuts text.bucking)
    (c.requires.differ text.cuts text.bucking) same

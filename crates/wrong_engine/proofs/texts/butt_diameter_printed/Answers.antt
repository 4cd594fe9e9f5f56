-- The total is the same, and the lines before it differ.
use Rattle.std.proofs.Common.{rules, ◌≡◌}
use Rattle.buckfleet_engine_text.specs.Bucking.{IsBuckText}
use Rattle.wrong_engine.proofs.Unlike.{unlike_front}
use Rattle.wrong_engine.proofs.texts.butt_diameter_printed.Goals as goal

pub prove-unreachable-requires : goal.prove-unreachable-requires
prove-unreachable-requires c =
    let same : c.in-Ok.right.items ≡ c.args.wrong.now = search rules in
    let text : IsBuckText c.args.instruction.now c.args.stems.now c.in-Ok.right.items = c.in-Ok.ensures in
    unlike_front _ _ _ _ _ text.lines (c.requires.wrong text.cuts text.bucking)
    (c.requires.differ text.cuts text.bucking) same

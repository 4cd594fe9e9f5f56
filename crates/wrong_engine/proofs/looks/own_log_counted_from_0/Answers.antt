use Rattle.std.proofs.Common.{rules, ◌≡◌, [], Some, Ok, codes}
use Rattle.buckfleet_live.specs.Live.{IsLiveRun}
use Rattle.wrong_engine.proofs.Looked.{counted_from_0}
use Rattle.wrong_engine.proofs.looks.own_log_counted_from_0.Goals as goal

pub prove-unreachable-requires : goal.prove-unreachable-requires
prove-unreachable-requires g c =
    let asked = c.requires.asked in
    let same : c.run-outcome.new.out.items ≡ codes "OWN 7 not 1 species\n" = search rules in
    let run : IsLiveRun c.args.live.now.history (Some c.args.request.now) (Some []) (Some c.run-outcome.new.out.items)
    (Ok tt) c.run-outcome.new.self.history = search rules in
    counted_from_0 _ _ _ _ asked.0 asked.1 asked.2 run c.requires.line asked.3 asked.4 asked.5 asked.6 same

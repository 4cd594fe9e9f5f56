use Rattle.std.proofs.Common.{◌≢◌, rules, ℕ, List, Bor}
use Rattle.buckfleet_engine_files.specs.declared.fault.EngineFault.TheVariants.{Write}
use Rattle.buckfleet_engine_files.specs.Ruled.{FollowsRule}
use Rattle.buckfleet_engine_files.proofs.Ruled.{follows_rule}
use Rattle.buck_c_calls.proofs.Turned.{texts_written, texts_refused}
use Rattle.buck_c_calls.proofs.turns.texts_by.Goals as goal

pub returns-in-Ok-clause-ok : goal.returns-in-Ok-clause-ok
returns-in-Ok-clause-ok g c =
    let ran = rw c.in-Ok.is at c.run_in_turn.ensures.run in
    let h = ran.run.0 in
    let follows : FollowsRule c.args.named h =
    follows_rule g.F.Fn c.args.rule c.args.named h c.requires.gives ran.run.1.0.lawful ran.run.1.1.1 in
    texts_written c.args.named (λ (f : Bor (List ℕ)). f.now) c.args.apt.now.now c.args.stms.now h
    c.new-journal.result.items c.run_in_turn.new.journal.0.items c.new-report.result.items c.run_in_turn.new.out.items
    ran.run.2.report ran.run.1.0 (ran.run.1.1.0, follows)
    c.new-journal.ensures.items ran.run.2.journal_whole c.new-report.ensures.items
    ran.run.2.report_whole ran.run.2.is_report

pub returns : goal.returns
returns g c =
    let fault = c.in-Err.fault in
    let other : fault ≢ Write = search rules in
    record {
      ok = tt;
      refused = texts_refused (λ (f : Bor (List ℕ)). f.now) _ c.args.apt.now.now c.args.stms.now _ _ _ fault
          c.in-Err.ensures.run other;
    }

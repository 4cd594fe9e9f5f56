use Rattle.std.proofs.Common.{rules, refl}
use Rattle.buck_c_calls.specs.Turns.{AreUsed}
use Rattle.buck_c_calls.proofs.Turned.{turns_told}
use Rattle.buck_c_calls.proofs.turns.buckfleet_in_turn.Goals as goal

pub returns-in-Err : goal.returns-in-Err
returns-in-Err c =
    let named = c.in-Some.rule in
    let used : AreUsed c.args.rule named c.args.lengths.now c.args.files.now = search rules in
    turns_told c.args.rule named c.args.lengths.now c.args.files.now c.in-Err.fault c.args.out.now c.put_fault.new.out
    (record { journal = 0; report = c.put_fault.new.written }) c.put_fault.result used c.in-Err.ensures.refused refl
    c.put_fault.ensures

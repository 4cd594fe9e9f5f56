use Rattle.std.proofs.Common.{arith}
use Rattle.buck_dp_own_logs.specs.declared.reason.Reason.TheVariants.{Species}
use Rattle.buck_dp_own_logs.specs.Judged.{AppliesAt}
use Rattle.wrong_best.proofs.own.last_log_told.Goals as goal

pub prove-unreachable-requires : goal.prove-unreachable-requires
prove-unreachable-requires c =
    let applies : AppliesAt c.args.sheet.now.instruction c.args.stem.now c.args.logs.now 0 Species =
    rw c.requires.logs c.requires.refused in
    c.in-Refused.ensures.none_before 0 Species (omega (arith, c.if-prove.true)) applies

use Rattle.std.proofs.Common.{arith}
use Rattle.buck_dp_own_logs.specs.declared.reason.Reason.TheVariants.{Species}
use Rattle.wrong_best.proofs.own.last_reason_told.Goals as goal

pub prove-unreachable-requires : goal.prove-unreachable-requires
prove-unreachable-requires c =
    c.in-Some.ensures.told.none_before Species
    (omega (arith, c.number-right.ensures, c.number-wrong.ensures, c.if-prove.true)) c.requires

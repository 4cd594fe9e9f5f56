use Rattle.buck_dp_own_logs.proofs.Standing.{stands_exactly}
use Rattle.buck_dp_own_logs.proofs.laws.logs_without_a_reason_are_allowed.Goals as goal

pub returns : goal.returns
returns c = stands_exactly

use Rattle.std.proofs.Common.{◌≤◌, rules, Some, inl, inr, refl}
use Rattle.buck_c_calls.specs.Files.{IsToldOf}
use Rattle.buck_c_calls.specs.Pages.{IsListed, IsTableFault}
use Rattle.buck_c_calls.proofs.Told.{told, among}
use Rattle.buck_c_calls.proofs.pages.buckfleet_table.Goals as goal

pub returns-in-Err : goal.returns-in-Err
returns-in-Err c =
    let Refused = IsTableFault (Some c.args.apt.now) (Some c.args.journal.now) in
    let there : c.args.table ≤ 5 = search rules in
    among (IsToldOf Refused) (IsListed c.args.table c.args.apt.now c.args.journal.now) _ _ _ _
    (λ text status is. inr (there, inr is))
    (told Refused c.in-Err.fault _ _ _ _ c.in-Err.ensures.refused (inl (inl (inr (inl refl)))) c.put_fault.ensures)

use Rattle.std.proofs.Common.{Some, inl, inr, refl}
use Rattle.buckfleet_engine_files.specs.Checking.{IsReadFault}
use Rattle.buck_c_calls.specs.Pages.{IsPage}
use Rattle.buck_c_calls.proofs.Told.{told, or_told}
use Rattle.buck_c_calls.proofs.pages.buckfleet_view.Goals as goal

pub returns-in-Err : goal.returns-in-Err
returns-in-Err c =
    let Refused = IsReadFault (Some c.args.apt.now) (Some c.args.journal.now) in
    or_told (IsPage c.args.apt.now c.args.journal.now) Refused _ _ _ _
    (told Refused c.in-Err.fault _ _ _ _ c.in-Err.ensures.refused (inl (inr (inl refl))) c.put_fault.ensures)

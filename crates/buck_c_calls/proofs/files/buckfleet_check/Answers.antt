use Rattle.std.proofs.Common.{◌≡◌, ℕ, List, Some, Ok, Err, inl, inr, refl}
use Rattle.buckfleet_engine.specs.run.Checking.{AnswersCheck}
use Rattle.buckfleet_engine_files.specs.declared.fault.EngineFault.{EngineFault}
use Rattle.buck_c_calls.proofs.Told.{told, or_told}
use Rattle.buck_c_calls.proofs.files.buckfleet_check.Goals as goal

pub returns-in-Err : goal.returns-in-Err
returns-in-Err c =
    or_told (λ (text : List ℕ) (status : ℕ). AnswersCheck (Some c.args.apt.now) (Some c.args.journal.now) (Ok text)
    × (status ≡ 0)) (λ (e : EngineFault). AnswersCheck (Some c.args.apt.now) (Some c.args.journal.now) (Err e))
    _ _ _ _
    (told (λ (e : EngineFault). AnswersCheck (Some c.args.apt.now) (Some c.args.journal.now) (Err e))
    c.in-Err.fault _ _ _ _ c.in-Err.ensures.refused (inl (inr (inl refl))) c.put_fault.ensures)

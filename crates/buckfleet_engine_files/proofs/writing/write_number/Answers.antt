use Rattle.std.proofs.Common.{[], ◌∷◌}
use Rattle.buckfleet_engine_files.proofs.WrittenLemmas.{stopped}
use Rattle.buckfleet_engine_files.proofs.writing.write_number.Goals as goal

pub returns-in_err-write_text : goal.returns-in_err-write_text
returns-in_err-write_text g c = stopped _ _ (32 ∷ []) _ _ _ c.from_residual.ensures.1 c.in_err-write_text.ensures

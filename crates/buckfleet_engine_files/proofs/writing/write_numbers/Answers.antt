use Rattle.std.proofs.Common.{◌∷◌}
use Rattle.std.specs.Fmt.{decimal}
use Rattle.buckfleet_engine_files.proofs.WrittenLemmas.{part_stopped}
use Rattle.buckfleet_engine_files.proofs.writing.write_numbers.Goals as goal

pub returns-in_err-write_number : goal.returns-in_err-write_number
returns-in_err-write_number g c =
    part_stopped _ _ _ (λ n. 32 ∷ decimal n) c.args.numbers.now c.loop-number.number-index 0 _ _ c.loop-number-test.true
    c.from_residual.ensures.1 c.loop-number.invariant c.in_err-write_number.ensures

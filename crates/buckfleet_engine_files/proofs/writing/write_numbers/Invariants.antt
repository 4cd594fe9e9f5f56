use Rattle.std.proofs.Common.{take}
use Rattle.std.specs.Io.KnownBytes.{Appends}
use Rattle.buck_record.specs.writing.Written.{spelled}
use Rattle.buckfleet_engine_files.proofs.writing.write_numbers.Given as goal

abbrev pub invariant-loop-number : goal.invariant-loop-number
invariant-loop-number g l =
    Appends (g.W.Write.contents l.initial.writer) (g.W.Write.contents l.writer)
    (spelled (take l.number-index l.numbers))

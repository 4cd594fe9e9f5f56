-- Answers as the code has them: a text, or the fault whose line is answered.
use Rattle.std.specs.Prelude.{◌⊎◌, ℕ, List, Result, Ok, Err}
use Rattle.std.specs.declared.vec.Vec.{Vec}
use Rattle.std.specs.declared.alloc.Global.{Global}
use Rattle.buck_book_postings.specs.History.{HistoryParts}
use Rattle.buckfleet_engine_files.specs.declared.fault.EngineFault.{EngineFault}
use Rattle.buckfleet_engine_files.specs.Faults.{fault_line, memory_line}
use Rattle.buckfleet_live.specs.Answers.{AnswersAsked, SaysOnly}
use Rattle.buckfleet_live.specs.declared.request.Asked.{Asked}

-- what is written of an answer
abbrev pub told : Result (Vec ℕ Global) EngineFault → List ℕ
told (Ok text) = text.items
told (Err fault) = fault_line fault

-- what is answered to what is asked for, or that memory ran out
abbrev pub AnswersOne : HistoryParts → ℕ → Asked → List ℕ → HistoryParts → Type 0
AnswersOne before harvester asked text after =
    AnswersAsked before harvester asked text after ⊎ SaysOnly memory_line before text after

-- Why a call over several files gives no text, and what it reports then.
use Rattle.std.specs.Prelude.{◌≡◌, ◌⊎◌, ℕ, List, [], Option, Result, Ok, Err}
use Rattle.std.specs.List.{AllZip}
use Rattle.buckfleet_engine_files.specs.declared.fault.EngineFault.{EngineFault}
use Rattle.buckfleet_engine_files.specs.declared.fault.EngineFault.TheVariants.{Write}
use Rattle.buckfleet_terms_files.specs.declared.fault.TermsFault.{TermsFault}
use Rattle.buckfleet_terms_files.specs.declared.fault.TermsFault.TheVariants.{Run}
use Rattle.buckfleet_terms_files.specs.Faults.{no_memory, terms_line, terms_status}
use Rattle.buckfleet_tasks.specs.declared.combination.Combination.{Combination}
use Rattle.buck_c_calls.specs.declared.asked.Run.{Run as RunAsked}
use Rattle.buck_c_calls.specs.declared.several.Stop.{Stop}
use Rattle.buck_c_calls.specs.declared.several.Stop.TheVariants.{Misused, Fault}
use Rattle.buck_c_calls.specs.Asked.{IsCombination}
use Rattle.buck_c_calls.specs.Books.{misused}
use Rattle.buck_c_calls.specs.Several.{AreHanded}

abbrev pub out_of_memory : Stop
out_of_memory = Fault no_memory

-- why there are no files: the lengths aren't those of the bytes, or of two files at least; or memory ran out
abbrev pub AreUnhanded : List ℕ → List ℕ → Stop → Type 0
AreUnhanded lengths bytes stop =
    (stop ≡ out_of_memory)
    ⊎ ((stop ≡ Misused)
    × ((apt other : List ℕ) (more : List (Option (List ℕ))) → AreHanded lengths bytes apt other more → ⊥))

-- why there are no such runs: one isn't allowed, or memory ran out
abbrev pub AreUncombined : List RunAsked → Stop → Type 0
AreUncombined runs stop =
    (stop ≡ out_of_memory) ⊎ ((stop ≡ Misused) × ((cs : List Combination) → AllZip IsCombination runs cs → ⊥))

-- the text of an answer, and the status that goes with it: of a fault its line; nothing if the call is misused
abbrev pub text_in : Result (List ℕ) Stop → List ℕ
text_in (Ok text) = text
text_in (Err Misused) = []
text_in (Err (Fault fault)) = terms_line fault

abbrev pub status_in : Result (List ℕ) Stop → ℕ
status_in (Ok text) = 0
status_in (Err Misused) = misused
status_in (Err (Fault fault)) = terms_status fault

-- a call answers so
abbrev pub Tells : (List ℕ → ℕ → Type 0) → Result (List ℕ) Stop → Type 0
Tells Answer answer = Answer (text_in answer) (status_in answer)

-- what comes of a run that wrote its text into a list: it was never the list that failed, but memory
abbrev pub ended : Result (Unit {0}) TermsFault → List ℕ → Result (List ℕ) Stop
ended (Ok done) text = Ok text
ended (Err (Run Write)) text = Err out_of_memory
ended (Err fault) text = Err (Fault fault)

abbrev pub in_terms : Result (Unit {0}) EngineFault → Result (Unit {0}) TermsFault
in_terms (Ok done) = Ok done
in_terms (Err fault) = Err (Run fault)

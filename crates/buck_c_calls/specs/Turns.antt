-- What the call answers by which harvesters take turns, over the bytes of files: a journal, a report and a status.
use Rattle.std.specs.Prelude.{◌≡◌, ◌≢◌, ◌⊎◌, ◌<◌, ℕ, ◌+◌, List, [], ◌∷◌, ◌++◌, map, length, sum, Some, None, Ok, Err}
use Rattle.std.specs.List.{concat}
use Rattle.buck_apt.specs.Apt.{apt_of}
use Rattle.buck_book_postings.specs.History.{HistoryParts}
use Rattle.buck_book_journal.specs.Written.{journal_text}
use Rattle.buckfleet_engine_files.specs.declared.fault.EngineFault.{EngineFault}
use Rattle.buckfleet_engine_files.specs.declared.fault.EngineFault.TheVariants.{Memory}
use Rattle.buckfleet_tasks.specs.declared.harvests.Order.TheVariants.{InTurn}
use Rattle.buckfleet_engine.specs.fleet.Running.{AnswersFleet}
use Rattle.buckfleet_engine_text.specs.Report.{IsReport}
use Rattle.buckfleet_engine_files.specs.Ruled.{FollowsRule}
use Rattle.buck_rule.specs.declared.named.NamedRule.{NamedRule}
use Rattle.buck_c_calls.specs.declared.turns.Texts.{Texts}
use Rattle.buck_c_calls.specs.Books.{misused, rule_of}
use Rattle.buck_c_calls.specs.Files.{IsToldOf}
use Rattle.buck_c_calls.specs.Room.{IsPutAs}

-- some bytes are these files, one after the other, each of its length
abbrev pub AreFiles : List ℕ → List ℕ → List (List ℕ) → Type 0
AreFiles lengths bytes files = (map (λ file. length file) files ≡ lengths) × (concat files ≡ bytes)

-- a journal and a report are those of one history of the files, whose harvesters took turns by a rule
abbrev pub AreTexts : NamedRule → List ℕ → List (List ℕ) → List ℕ → List ℕ → Type 0
AreTexts rule apt stms journal report =
    (h : HistoryParts) × AnswersFleet apt_of InTurn (FollowsRule rule) (Some apt) (map Some stms) (Ok h)
    × (journal ≡ journal_text h.sheets h.postings) × IsReport h report

-- the texts of one history of the first file's instruction and the stems of the others
abbrev pub HaveTexts : NamedRule → List ℕ → List ℕ → List ℕ → List ℕ → Type 0
HaveTexts rule lengths bytes journal report =
    (apt : List ℕ) × (stms : List (List ℕ)) × AreFiles lengths bytes (apt ∷ stms)
    × AreTexts rule apt stms journal report

-- why there is none: memory ran out, or the first file that has a fault, or what went wrong after all of them
abbrev pub AreRefused : List ℕ → List ℕ → EngineFault → Type 0
AreRefused lengths bytes fault =
    (fault ≡ Memory)
    ⊎ ((apt : List ℕ) × (stms : List (List ℕ)) × AreFiles lengths bytes (apt ∷ stms)
    × AnswersFleet apt_of InTurn (λ _. Unit {0}) (Some apt) (map Some stms) (Err fault))

-- what is handed over can't be cut: there is no such rule or no file, or the lengths aren't those of the bytes
abbrev pub AreMisused : ℕ → List ℕ → List ℕ → Type 0
AreMisused rule lengths bytes = (rule_of rule ≡ None) ⊎ ((lengths ≡ []) ⊎ (sum lengths ≢ length bytes))

-- and what can, by the rule of a number
abbrev pub AreUsed : ℕ → NamedRule → List ℕ → List ℕ → Type 0
AreUsed rule named lengths bytes =
    (rule_of rule ≡ Some named) × (0 < length lengths) × (sum lengths ≡ length bytes)

-- the texts; or no journal, and the line of the fault in the place of the report; neither if it is misused
abbrev pub IsTurned : ℕ → List ℕ → List ℕ → List ℕ → List ℕ → ℕ → Type 0
IsTurned rule lengths bytes journal report status =
    (AreMisused rule lengths bytes × (journal ≡ []) × (report ≡ []) × (status ≡ misused))
    ⊎ ((named : NamedRule) × AreUsed rule named lengths bytes
    × ((HaveTexts named lengths bytes journal report × (status ≡ 0))
    ⊎ ((journal ≡ []) × IsToldOf (AreRefused lengths bytes) report status)))

-- a journal and a report were put one after the other, and their lengths are reported
abbrev pub ArePut : (List ℕ → List ℕ → ℕ → Type 0) → List ℕ → List ℕ → Texts → ℕ → Type 0
ArePut Answer old new texts result =
    (journal : List ℕ) × (report : List ℕ) × (status : ℕ) × Answer journal report status
    × (texts.journal ≡ length journal)
    × IsPutAs (journal ++ report) status old new (texts.journal + texts.report) result

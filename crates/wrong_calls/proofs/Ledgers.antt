-- What is never answered over journals.
use Rattle.std.proofs.Common.{◌≡◌, ◌≢◌, ◌<◌, ◌≤◌, ℕ, ◌+◌, List, [], ◌∷◌, length, take, sum, Option, Some, None, Result, Ok, Err, inl, inr, refl, sym, ap, ◌∙◌, arith}
use Rattle.buck_record.specs.checking.Check.{◌>>=◌}
use Rattle.buck_apt.specs.declared.fault.AptFault.{AptFault}
use Rattle.buck_apt.specs.Faults.{apt_numbers}
use Rattle.buck_apt.specs.Apt.{apt_of}
use Rattle.buck_apt_instruction.specs.Instruction.{InstructionParts}
use Rattle.buck_apt_instruction.specs.Settings.{SettingsParts, with_settings}
use Rattle.buck_rule.specs.declared.named.NamedRule.{NamedRule}
use Rattle.buckfleet_engine_files.specs.declared.fault.EngineFault.{EngineFault}
use Rattle.buckfleet_tasks.specs.declared.journals.CrossCheck.{CrossCheck}
use Rattle.buckfleet_engine_files.specs.Faults.{memory_line, status_of, status_or}
use Rattle.buckfleet_engine_files.specs.Reading.{apt_with}
use Rattle.buckfleet_engine_cross_check.specs.Answers.{AnswersCheckWith}
use Rattle.buckfleet_terms_files.specs.declared.fault.TermsFault.{TermsFault}
use Rattle.buckfleet_terms_files.specs.declared.fault.TermsFault.TheVariants.{Run as OfRun, Targets, Own}
use Rattle.buckfleet_terms_files.specs.Faults.{terms_status}
use Rattle.buckfleet_tasks.specs.declared.journals.CompareTask.{CompareTask}
use Rattle.buckfleet_proceeds.specs.Serving.{AnswersAppraise}
use Rattle.buck_c_calls.specs.declared.asked.Numbers.{Numbers}
use Rattle.buck_c_calls.specs.declared.asked.Pair.{Pair}
use Rattle.buck_c_calls.specs.declared.asked.Run.{Run}
use Rattle.buck_c_calls.specs.Asked.{AreSettings, IsCrossCheck, told}
use Rattle.buck_c_calls.specs.Ledger.{IsAppraised, IsCheckedWith, IsCompared}
use Rattle.buck_c_calls.specs.Room.{IsPut}
use Rattle.buck_c_calls.specs.Several.{InTerms}
use Rattle.buck_c_calls.specs.Turns.{AreFiles}
use Rattle.buck_c_calls.proofs.Handing.{none_of_lengths}
use Rattle.wrong_calls.proofs.Called.{never_misused, none_asked, none_handed, none_told}
use Rattle.wrong_calls.proofs.Fits.{at_start, but_6, never_of}
use Rattle.wrong_calls.proofs.Lines.{refused_unlike_memory}
use Rattle.wrong_calls.proofs.Numbers.{limit_1001}
use Rattle.wrong_calls.proofs.Statuses.{not_both}

-- no journal is checked whose lengths aren't those of the bytes
pub other_lengths_checked : (run : Run) (lengths bytes old new : List ℕ) (written result : ℕ)
    → sum lengths ≢ length bytes → IsPut (IsCheckedWith run lengths bytes) old new written result → result ≡ 0 → ⊥
other_lengths_checked run lengths bytes old new written result differ put is =
    none_handed (λ (by : CrossCheck) n. IsCrossCheck run by) _ lengths bytes old new written result
    (λ apt other more h. none_of_lengths lengths bytes apt other more differ h) put is

-- any rule may be asked of a check, by the instruction's own numbers
any_rule : (run : Run) → run.rule ≡ 255 → run.numbers ≡ record { period = 4294967295; limit = 4294967295 }
    → IsCrossCheck run (record { rule = None; settings = record { period = None; limit = None } })
any_rule run rule numbers = (
  rule,
  (
    sym (ap (λ (n : Numbers). record { period = told n.period; limit = told n.limit }) numbers),
    record { period_range = tt; limit_range = tt },
  ),
)

pub never_misused_check : (run : Run) (lengths bytes old new : List ℕ) (written result : ℕ)
    → run.rule ≡ 255 → run.numbers ≡ record { period = 4294967295; limit = 4294967295 }
    → (apt : List ℕ) × (journal : List ℕ) × (stms : List (List ℕ)) × AreFiles lengths bytes (apt ∷ journal ∷ stms)
    → IsPut (IsCheckedWith run lengths bytes) old new written result → result ≡ 8 → ⊥
never_misused_check run lengths bytes old new written result rule numbers (apt, journal, stms, are) put is =
    never_misused (λ (by : CrossCheck) n. IsCrossCheck run by) _ lengths bytes old new written result
    (record { rule = None; settings = record { period = None; limit = None } }) apt journal stms
    (record { files = stms; are_files = are; more_are = refl }) (any_rule run rule numbers) put is

with_ok : (s : SettingsParts) (r : Result InstructionParts AptFault) (why : AptFault) (i : InstructionParts)
    → r ≡ Err why → (r >>= λ own. Ok (with_settings s own)) ≡ Ok i → ⊥
with_ok s (Ok own) why i err ok = not_both (Ok own) own why refl err
with_ok s (Err fault) why i err ok = not_both (Err fault) i fault ok refl

-- an instruction that is refused isn't read with other numbers
with_refused : (s : SettingsParts) (bytes : List ℕ) (why : AptFault) (i : InstructionParts) → apt_of bytes ≡ Err why
    → apt_with s bytes ≡ Ok i → ⊥
unfolding apt_with
with_refused s bytes why i err ok = with_ok s (apt_of bytes) why i err ok

refused_4 : (numbers : List ℕ) → status_or 1 numbers ≡ 4 → ⊥
refused_4 [] is = omega (arith, is)
refused_4 (n ∷ ns) is = omega (arith, is)

run_4 : (s : SettingsParts) (rule : Option NamedRule) (apt journal : List ℕ) (stms : List (Option (List ℕ)))
    (fault : EngineFault) (why : AptFault) → apt_of apt ≡ Err why
    → AnswersCheckWith (apt_with s) rule (Some apt) (Some journal) stms (Err fault) → status_of fault ≡ 4 → ⊥
run_4 s rule apt journal stms fault why err (inl seats) is =
    let e : 2 ≡ 4 = ap (λ f. status_of f) (sym seats.1) ∙ is in omega (arith, e)
run_4 s rule apt journal stms fault why err (inr (few, inl (inl (inl read)))) is =
    let e : 5 ≡ 4 = ap (λ f. status_of f) (sym read) ∙ is in omega (arith, e)
run_4 s rule apt journal stms fault why err (inr (few, inl (inl (inr (inl memory))))) is =
    let e : 3 ≡ 4 = ap (λ f. status_of f) (sym memory) ∙ is in omega (arith, e)
run_4 s rule apt journal stms fault why err (inr (few, inl (inl (inr (inr (other, named, says)))))) is =
    refused_4 (apt_numbers other) (ap (λ f. status_of f) (sym named) ∙ is)
run_4 s rule apt journal stms fault why err (inr (few, inl (inr (accepted, behind)))) is =
    not_both (apt_of apt) accepted.0 why accepted.1.1 err
run_4 s rule apt journal stms fault why err (inr (few, inr ties)) is =
    with_refused s apt why ties.instruction err ties.have.apt_says.1

terms_4 : (s : SettingsParts) (rule : Option NamedRule) (apt journal : List ℕ) (stms : List (Option (List ℕ)))
    (fault : TermsFault) (why : AptFault) → apt_of apt ≡ Err why
    → InTerms (AnswersCheckWith (apt_with s) rule (Some apt) (Some journal) stms) (Err fault) → terms_status fault ≡ 4
    → ⊥
terms_4 s rule apt journal stms (OfRun fault) why err a is = run_4 s rule apt journal stms fault why err a is
terms_4 s rule apt journal stms (Targets other) why err a is = a
terms_4 s rule apt journal stms (Own other) why err a is = a

-- the first file is refused, however the bytes are split
abbrev pub IsFirstRefused : List ℕ → List ℕ → Type 0
IsFirstRefused lengths bytes =
    (apt other : List ℕ) (files : List (List ℕ)) → AreFiles lengths bytes (apt ∷ other ∷ files)
    → (why : AptFault) × (apt_of apt ≡ Err why)

check_4 : (run : Run) (lengths bytes text : List ℕ) (status : ℕ) → IsFirstRefused lengths bytes
    → IsCheckedWith run lengths bytes text status → status ≡ 4 → ⊥
check_4 run lengths bytes text status refused (inl done) is = omega (arith, done.1, is)
check_4 run lengths bytes text status refused (inr (inl (fault, inl memory, line, told))) is =
    let e : 3 ≡ 4 = ap (λ (f : TermsFault). terms_status f) (sym memory) ∙ sym told ∙ is in omega (arith, e)
check_4 run lengths bytes text status refused (inr (inl (fault, inr a, line, told))) is =
    let (why, err) = refused a.apt a.other a.are_handed.files a.are_handed.are_files in
    terms_4 a.asked.settings a.asked.rule a.apt a.other a.more fault why err a.answers (sym told ∙ is)
check_4 run lengths bytes text status refused (inr (inr (none, empty, told))) is = omega (arith, told, is)

-- an instruction that is refused gives no journal's fault
pub never_unlawful : (run : Run) (lengths bytes old new : List ℕ) (written result : ℕ) → IsFirstRefused lengths bytes
    → IsPut (IsCheckedWith run lengths bytes) old new written result → result ≡ 4 → ⊥
never_unlawful run lengths bytes old new written result refused put is =
    never_of (IsCheckedWith run lengths bytes) old new written result 4 (omega arith)
    (λ text status a told. check_4 run lengths bytes text status refused a told) put is

-- an appraisal is of 1 to 64 journals
pub never_appraised : (numbers : Numbers) (lengths bytes old new : List ℕ) (written result : ℕ)
    → ((number : ℕ) → length lengths ≡ number + 2 → 0 < number → number ≤ 64 → ⊥)
    → IsPut (IsAppraised numbers lengths bytes) old new written result → result ≡ 0 → ⊥
never_appraised numbers lengths bytes old new written result none put is =
    none_asked (λ (s : SettingsParts) n. AreSettings numbers s × (0 < n) × (n ≤ 64)) _
    lengths bytes old new written result (λ s n number asked. none n number asked.1 asked.2) put is

pub no_journal : (numbers : Numbers) (lengths bytes old new : List ℕ) (written result : ℕ) → length lengths ≡ 2
    → IsPut (IsAppraised numbers lengths bytes) old new written result → result ≡ 0 → ⊥
no_journal numbers lengths bytes old new written result two put is =
    never_appraised numbers lengths bytes old new written result
    (λ n number some few. omega (arith, number, some, two)) put is

pub journals_65 : (numbers : Numbers) (lengths bytes old new : List ℕ) (written result : ℕ) → length lengths ≡ 67
    → IsPut (IsAppraised numbers lengths bytes) old new written result → result ≡ 0 → ⊥
journals_65 numbers lengths bytes old new written result many put is =
    never_appraised numbers lengths bytes old new written result
    (λ n number some few. omega (arith, number, few, many)) put is

-- and under an owner's contract that is read
pub contract_refused : (numbers : Numbers) (lengths bytes old new : List ℕ) (written result : ℕ)
    → ((apt own : List ℕ) (journals : List (List ℕ)) → AreFiles lengths bytes (apt ∷ own ∷ journals)
    → (why : AptFault) × (apt_of own ≡ Err why))
    → IsPut (IsAppraised numbers lengths bytes) old new written result → result ≡ 0 → ⊥
contract_refused numbers lengths bytes old new written result refused put is =
    none_told (λ (s : SettingsParts) n. AreSettings numbers s × (0 < n) × (n ≤ 64))
    (λ s apt own journals. AnswersAppraise s (Some apt) journals (Some own, length journals + 1))
    lengths bytes old new written result
    (λ s apt own journals text are a. let why = refused apt own journals are in
    not_both (apt_of own) a.owner why.0 a.own_says.1 why.1) put is

-- a comparison is of two journals
pub three_journals : (pair : Pair) (lengths bytes old new : List ℕ) (written result : ℕ) → length lengths ≡ 4
    → IsPut (IsCompared pair lengths bytes) old new written result → result ≡ 0 → ⊥
three_journals pair lengths bytes old new written result four put is =
    none_asked (λ (t : CompareTask) n. AreSettings pair.first t.first × AreSettings pair.second t.second × (n ≡ 1)) _
    lengths bytes old new written result (λ t n number asked. omega (arith, number, four, asked.2)) put is

-- and by the numbers of both
pub second_numbers : (pair : Pair) (lengths bytes old new : List ℕ) (written result : ℕ) → pair.second.limit ≡ 1001
    → IsPut (IsCompared pair lengths bytes) old new written result → result ≡ 0 → ⊥
second_numbers pair lengths bytes old new written result limit put is =
    none_asked (λ (t : CompareTask) n. AreSettings pair.first t.first × AreSettings pair.second t.second × (n ≡ 1)) _
    lengths bytes old new written result (λ t n number asked. limit_1001 pair.second t.second limit asked.1) put is

refused_line : (numbers : Numbers) (lengths bytes text : List ℕ) (status : ℕ)
    → IsAppraised numbers lengths bytes text status → status ≡ 1 → text ≡ memory_line → ⊥
refused_line numbers lengths bytes text status (inl done) is same = omega (arith, done.1, is)
refused_line numbers lengths bytes text status (inr (inl (fault, why, line, told))) is same =
    refused_unlike_memory fault (sym told ∙ is) (sym line ∙ same)
refused_line numbers lengths bytes text status (inr (inr (none, empty, told))) is same = omega (arith, told, is)

-- memory that ran out doesn't have the status of a refusal
pub memory_refused : (numbers : Numbers) (lengths bytes old new right : List ℕ) (written result : ℕ)
    → IsPut (IsAppraised numbers lengths bytes) old new written result → result ≡ 1 → right ≡ take written new
    → right ≡ memory_line → ⊥
memory_refused numbers lengths bytes old new right written result (text, status, a, put) is taken same =
    let own = but_6 text status old new written result (λ e. omega (arith, is, e)) put ∙ is in
    refused_line numbers lengths bytes text status a own
    (sym (at_start text old new right status written result put (λ e. omega (arith, is, e)) taken) ∙ same)

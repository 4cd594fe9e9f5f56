-- What is never answered of a harvest before it is cut.
use Rattle.std.proofs.Common.{◌≡◌, ◌<◌, ℕ, List, [], ◌∷◌, ◌++◌, length, take, map, Option, Some, Ok, codes, sym, ap, subst, ◌∙◌, arith}
use Rattle.std.specs.List.{AllZip}
use Rattle.std.proofs.lemmas.List.{length-append}
use Rattle.buck_apt.specs.Apt.{apt_of}
use Rattle.buck_apt_instruction.specs.Instruction.{InstructionParts}
use Rattle.buck_apt_instruction.specs.Priced.{with_prices}
use Rattle.buckfleet_tasks.specs.declared.combination.Combination.{Combination}
use Rattle.buckfleet_terms_files.specs.Targets.{HasTargets}
use Rattle.buckfleet_trial.specs.Inputs.{HasWanted}
use Rattle.buckfleet_trial.specs.Trial.{AnswersTrial, drawn_head, starts_of}
use Rattle.buckfleet_trial_tune.specs.Tune.{AnswersTune}
use Rattle.buck_c_calls.specs.declared.asked.DrawnRun.{DrawnRun}
use Rattle.buck_c_calls.specs.declared.asked.Orders.{Orders}
use Rattle.buck_c_calls.specs.declared.asked.Run.{Run}
use Rattle.buck_c_calls.specs.Asked.{IsCombination, draws_by}
use Rattle.buck_c_calls.specs.Room.{IsPut}
use Rattle.buck_c_calls.specs.Trials.{IsSwept, IsTuned, IsWished, wanted_in}
use Rattle.buck_c_calls.specs.Turns.{AreFiles}
use Rattle.buck_c_calls.proofs.Handing.{none_of_few}
use Rattle.wrong_calls.proofs.Called.{done, left, misused_empty, none_asked, none_handed, none_told}
use Rattle.wrong_calls.proofs.Fits.{at_start}
use Rattle.wrong_calls.proofs.Numbers.{first_by_any, period_0, rule_4}

-- no sweep is of one file
pub one_file : (runs : List Run) (draws : Orders) (lengths bytes old new : List ℕ) (written result : ℕ)
    → length lengths < 2 → IsPut (IsSwept runs draws lengths bytes) old new written result → result ≡ 0 → ⊥
one_file runs draws lengths bytes old new written result few put is =
    none_handed (λ (cs : List Combination) n. AllZip IsCombination runs cs) _ lengths bytes old new written result
    (λ apt other more h. none_of_few lengths bytes apt other more few h) put is

-- nor by any rule
pub any_rule_swept : (runs more : List Run) (run : Run) (draws : Orders) (lengths bytes old new : List ℕ)
    (written result : ℕ) → runs ≡ run ∷ more → run.rule ≡ 255
    → IsPut (IsSwept runs draws lengths bytes) old new written result → result ≡ 0 → ⊥
any_rule_swept runs more run draws lengths bytes old new written result one rule put is =
    none_asked (λ (cs : List Combination) n. AllZip IsCombination runs cs) _ lengths bytes old new written result
    (λ cs n number all. first_by_any run more cs rule
    (subst (λ (rs : List Run). AllZip IsCombination rs cs) one all)) put is

no_wanted : (targets : List ℕ) (stms : List (Option (List ℕ))) (own i : InstructionParts) → 0 < length targets
    → ((wanted : List ℕ) → HasTargets own targets wanted → ⊥) → HasWanted own (wanted_in targets stms) i → ⊥
no_wanted [] stms own i some never has = omega (arith, some)
no_wanted (byte ∷ bytes) stms own i some never (wanted, says, is) = never wanted says.1

-- nor of targets that the file of targets doesn't have
pub targets_refused : (runs : List Run) (draws : Orders) (lengths bytes old new : List ℕ) (written result : ℕ)
    → ((apt targets : List ℕ) (stms : List (List ℕ)) → AreFiles lengths bytes (apt ∷ targets ∷ stms)
    → (0 < length targets) × ((i : InstructionParts) (wanted : List ℕ) → HasTargets i targets wanted → ⊥))
    → IsPut (IsSwept runs draws lengths bytes) old new written result → result ≡ 0 → ⊥
targets_refused runs draws lengths bytes old new written result refused put is =
    none_told (λ (cs : List Combination) n. AllZip IsCombination runs cs)
    (λ cs apt targets stms. AnswersTrial cs (draws_by draws) (Some apt) stms (wanted_in targets stms))
    lengths bytes old new written result
    (λ cs apt targets stms text are a. let none = refused apt targets stms are in
    no_wanted targets (map Some stms) a.says.own a.instruction none.0 (none.1 a.says.own) a.says.wanted) put is

longer : (head columns lines text : List ℕ) → text ≡ head ++ (columns ++ (codes "\n" ++ lines)) → 0 < length text
longer head columns lines text is =
    let all : length text ≡ length (head ++ (columns ++ (codes "\n" ++ lines))) = ap (λ (t : List ℕ). length t) is in
    omega (
      arith,
      all,
      length-append head (columns ++ (codes "\n" ++ lines)),
      length-append columns (codes "\n" ++ lines),
      length-append (codes "\n") lines,
    )

-- a table of a sweep isn't empty
pub table_empty : (runs : List Run) (draws : Orders) (lengths bytes old new : List ℕ) (written result : ℕ)
    → IsPut (IsSwept runs draws lengths bytes) old new written result → result ≡ 0 → written ≡ 0 → ⊥
table_empty runs draws lengths bytes old new written result put is none =
    let (text, a, its) = done (λ (cs : List Combination) n. AllZip IsCombination runs cs)
    (λ cs apt targets stms. AnswersTrial cs (draws_by draws) (Some apt) stms (wanted_in targets stms))
    lengths bytes old new written result put is in
    let t = a.answers in
    omega (
      arith,
      longer t.is_trial.head (drawn_head (starts_of (draws_by draws) t.lists)) t.is_trial.lines text t.is_trial.text_is,
      its.number_is,
      none,
    )

-- no wishes are of a run in periods of 0
pub never_wished : (asked : DrawnRun) (lengths bytes old new : List ℕ) (written result : ℕ)
    → asked.run.numbers.period ≡ 0
    → IsPut (IsWished asked lengths bytes) old new written result → result ≡ 0 → ⊥
never_wished asked lengths bytes old new written result period put is =
    none_asked (λ (c : Combination) n. IsCombination asked.run c) _ lengths bytes old new written result
    (λ c n number by. period_0 asked.run.numbers c.settings period by.1) put is

-- a room that is too small for them is left as it was
pub wishes_left : (asked : DrawnRun) (lengths bytes old new : List ℕ) (written result : ℕ)
    → IsPut (IsWished asked lengths bytes) old new written result → result ≡ 6 → new ≡ old
wishes_left asked lengths bytes old new written result put is =
    left (λ (c : Combination) n. IsCombination asked.run c) _ lengths bytes old new written result put is

-- nothing is tuned by a rule of the number 4
pub never_tuned : (run : Run) (lengths bytes old new : List ℕ) (written result : ℕ) → run.rule ≡ 4
    → IsPut (IsTuned run lengths bytes) old new written result → result ≡ 0 → ⊥
never_tuned run lengths bytes old new written result rule put is =
    none_asked (λ (c : Combination) n. IsCombination run c) _ lengths bytes old new written result
    (λ c n number by. rule_4 run c rule by) put is

-- and a misuse gives no text
pub tune_misused : (run : Run) (lengths bytes old new : List ℕ) (written result : ℕ)
    → IsPut (IsTuned run lengths bytes) old new written result → result ≡ 8 → written ≡ 0
tune_misused run lengths bytes old new written result put is =
    misused_empty (λ (c : Combination) n. IsCombination run c) _ lengths bytes old new written result put is

-- what is tuned is an instruction
pub tune_read : (run : Run) (lengths bytes old new right wrong : List ℕ) (written result : ℕ)
    → IsPut (IsTuned run lengths bytes) old new written result → result ≡ 0 → right ≡ take written new
    → ((i : InstructionParts) → apt_of wrong ≡ Ok i → ⊥) → right ≡ wrong → ⊥
tune_read run lengths bytes old new right wrong written result put is taken never same =
    let (text, a, its) = done (λ (c : Combination) n. IsCombination run c)
    (λ c apt targets stms. AnswersTune c.rule c.settings (Some apt) stms (wanted_in targets stms))
    lengths bytes old new written result put is in
    let t = a.answers in
    never (with_prices t.is_tuned.prices t.instruction)
    (ap (λ (bs : List ℕ). apt_of bs)
    (sym same ∙ at_start text old new right 0 written result its (λ e. omega (arith, is, e)) taken)
    ∙ t.is_tuned.read_again)

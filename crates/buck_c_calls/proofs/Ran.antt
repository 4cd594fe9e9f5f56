-- How a run over files that were handed over ends.
use Rattle.std.proofs.Common.{◌≡◌, ◌≢◌, ◌⊎◌, ℕ, List, [], length, map, Bor, Vec, Global, Option, Some, Result, Ok, Err, refl, sym, ◌∙◌, subst, inl, inr}
use Rattle.std.specs.List.{AllZip}
use Rattle.std.specs.Result.{IsErrAnd}
use Rattle.buck_record.specs.Reading.{listed}
use Rattle.buckfleet_engine_files.specs.declared.fault.EngineFault.{EngineFault}
use Rattle.buckfleet_engine_files.specs.declared.fault.EngineFault.TheVariants.{Write}
use Rattle.buckfleet_engine_files.specs.Faults.{memory_line}
use Rattle.buckfleet_engine_files.specs.Written.{WritesText}
use Rattle.buckfleet_terms_files.specs.declared.fault.TermsFault.{TermsFault}
use Rattle.buckfleet_terms_files.specs.declared.fault.TermsFault.TheVariants.{Run}
use Rattle.buckfleet_terms_files.specs.Faults.{no_memory}
use Rattle.buckfleet_terms_files.specs.Telling.{WritesTerms}
use Rattle.buckfleet_tasks.specs.declared.combination.Combination.{Combination}
use Rattle.buck_c_calls.specs.declared.asked.Run.{Run as RunAsked}
use Rattle.buck_c_calls.specs.declared.several.Stop.{Stop}
use Rattle.buck_c_calls.specs.declared.several.Stop.TheVariants.{Misused, Fault}
use Rattle.buck_c_calls.specs.Asked.{IsCombination}
use Rattle.buck_c_calls.specs.Room.{IsPut, IsPutAs}
use Rattle.buck_c_calls.specs.Several.{AnswersCall, AreHanded, InTerms, IsAnswered, IsMisuse}
use Rattle.buck_c_calls.specs.inner.Stopped.{AreUncombined, AreUnhanded, Tells, ended, in_terms, out_of_memory, status_in, text_in}

-- any outcome but a failed write is reported as it is
pub ended_so : (fault : TermsFault) (text : List ℕ) → fault ≢ Run Write
    → ended (Err fault) text ≡ Err (Fault fault)
ended_so (Run Write) text other = absurd (other refl)
ended_so fault text other = refl

-- a run over files that were handed over, of what was asked
pub ran : {A : Type 0} (IsAsked : A → ℕ → Type 0)
    (Answers : A → List ℕ → List ℕ → List (Option (List ℕ)) → Result (List ℕ) TermsFault → Type 0)
    (lengths bytes : List ℕ) (a : A) (apt other : List ℕ) (more : List (Option (List ℕ))) (before text : List ℕ)
    (outcome : Result (Unit {0}) TermsFault) (r : Result (List ℕ) Stop)
    → IsAsked a (length more) → AreHanded lengths bytes apt other more → before ≡ []
    → WritesTerms (Answers a apt other more) (Some before) (Some text) outcome → r ≡ ended outcome text
    → Tells (AnswersCall IsAsked Answers lengths bytes) r
ran IsAsked Answers lengths bytes a apt other more before text outcome r asked handed none w is =
    subst (λ x. Tells (AnswersCall IsAsked Answers lengths bytes) x) (sym is)
    (each outcome (subst (λ b. WritesTerms (Answers a apt other more) (Some b) (Some text) outcome) none w))
  where
    answered : (answer : Result (List ℕ) TermsFault) → Answers a apt other more answer
        → IsAnswered IsAsked Answers lengths bytes answer
    answered answer its = record {
      asked = a;
      apt = apt;
      other = other;
      more = more;
      are_handed = handed;
      is_asked = asked;
      answers = its;
    }

    each : (o : Result (Unit {0}) TermsFault) → WritesTerms (Answers a apt other more) (Some []) (Some text) o
        → Tells (AnswersCall IsAsked Answers lengths bytes) (ended o text)
    each (Ok done) (written, its, appends) =
        inl (answered (Ok text) (subst (λ t. Answers a apt other more (Ok t)) (sym appends) its), refl)
    each (Err (Run Write)) w = inr (inl (no_memory, inl refl, refl, refl))
    each (Err fault) w = inr (inl (fault, inr (answered (Err fault) w.0), refl, refl))

-- the same of a run whose faults are all those of a run
pub in_terms_ran : (Answers : Result (List ℕ) EngineFault → Type 0) (old new : Option (List ℕ))
    (outcome : Result (Unit {0}) EngineFault) (told : Result (Unit {0}) TermsFault)
    → told ≡ in_terms outcome → WritesText Answers old new outcome → WritesTerms (InTerms Answers) old new told
in_terms_ran Answers old new outcome told is w =
    subst (λ o. WritesTerms (InTerms Answers) old new o) (sym is) (each outcome w)
  where
    each : (o : Result (Unit {0}) EngineFault) → WritesText Answers old new o
        → WritesTerms (InTerms Answers) old new (in_terms o)
    each (Ok done) w = w
    each (Err Write) w = w
    each (Err fault) w = w

-- memory ran out
no_memory_told : {A : Type 0} (IsAsked : A → ℕ → Type 0)
    (Answers : A → List ℕ → List ℕ → List (Option (List ℕ)) → Result (List ℕ) TermsFault → Type 0)
    (lengths bytes : List ℕ) → AnswersCall IsAsked Answers lengths bytes memory_line 3
no_memory_told IsAsked Answers lengths bytes = inr (inl (no_memory, inl refl, refl, refl))

-- nothing was asked that may be asked
pub unasked : {A : Type 0} (IsAsked : A → ℕ → Type 0)
    (Answers : A → List ℕ → List ℕ → List (Option (List ℕ)) → Result (List ℕ) TermsFault → Type 0)
    (lengths bytes : List ℕ) → IsMisuse IsAsked lengths bytes
    → AnswersCall IsAsked Answers lengths bytes [] 8
unasked IsAsked Answers lengths bytes none = inr (inr (none, refl, refl))

-- what a stop reports: memory that ran out or a misuse
stopped : {A : Type 0} (IsAsked : A → ℕ → Type 0)
    (Answers : A → List ℕ → List ℕ → List (Option (List ℕ)) → Result (List ℕ) TermsFault → Type 0)
    (lengths bytes : List ℕ) (stop : Stop) (r : Result (Vec ℕ Global) Stop)
    → IsErrAnd r (λ s. s ≡ stop) → (stop ≡ out_of_memory) ⊎ ((stop ≡ Misused) × IsMisuse IsAsked lengths bytes)
    → Tells (AnswersCall IsAsked Answers lengths bytes) (listed r)
stopped IsAsked Answers lengths bytes stop (Ok text) err why = absurd err
stopped IsAsked Answers lengths bytes stop (Err s) err (inl is) =
    subst (λ x. Tells (AnswersCall IsAsked Answers lengths bytes) (Err x)) (sym (err ∙ is))
    (no_memory_told IsAsked Answers lengths bytes)
stopped IsAsked Answers lengths bytes stop (Err s) err (inr (is, none)) =
    subst (λ x. Tells (AnswersCall IsAsked Answers lengths bytes) (Err x)) (sym (err ∙ is))
    (unasked IsAsked Answers lengths bytes none)

-- there are no such files
pub unhanded : {A : Type 0} (IsAsked : A → ℕ → Type 0)
    (Answers : A → List ℕ → List ℕ → List (Option (List ℕ)) → Result (List ℕ) TermsFault → Type 0)
    (lengths bytes : List ℕ) (stop : Stop) (r : Result (Vec ℕ Global) Stop)
    → IsErrAnd r (λ s. s ≡ stop) → AreUnhanded lengths bytes stop
    → Tells (AnswersCall IsAsked Answers lengths bytes) (listed r)
unhanded IsAsked Answers lengths bytes stop r err (inl is) =
    stopped IsAsked Answers lengths bytes stop r err (inl is)
unhanded IsAsked Answers lengths bytes stop r err (inr (is, none)) =
    stopped IsAsked Answers lengths bytes stop r err
    (inr (is, λ a apt other more handed asked. none apt other more handed))

-- nor such runs
pub uncombined :
    (Answers : List Combination → List ℕ → List ℕ → List (Option (List ℕ)) → Result (List ℕ) TermsFault → Type 0)
    (runs : List RunAsked) (lengths bytes : List ℕ) (stop : Stop) (r : Result (Vec ℕ Global) Stop)
    → IsErrAnd r (λ s. s ≡ stop) → AreUncombined runs stop
    → Tells (AnswersCall (λ (cs : List Combination) n. AllZip IsCombination runs cs) Answers lengths bytes) (listed r)
uncombined Answers runs lengths bytes stop r err (inl is) =
    stopped (λ (cs : List Combination) n. AllZip IsCombination runs cs) Answers lengths bytes stop r err (inl is)
uncombined Answers runs lengths bytes stop r err (inr (is, none)) =
    stopped (λ (cs : List Combination) n. AllZip IsCombination runs cs) Answers lengths bytes stop r err
    (inr (is, λ cs apt other more handed asked. none cs asked))

pub ruleset refusals = (unhanded, uncombined)

-- the files of a trial, as they were opened
pub opened_as : (Answers : Option (List ℕ) → List (Option (List ℕ)) → Option (Option (List ℕ) × ℕ)
    → Result (List ℕ) TermsFault → Type 0)
    (apt one : Bor (List ℕ)) (stms more : Vec (Bor (List ℕ)) Global) (targets wanted : Option (Option (List ℕ) × ℕ))
    (old new : Option (List ℕ)) (outcome : Result (Unit {0}) TermsFault)
    → apt ≡ one → stms ≡ more → targets ≡ wanted
    → WritesTerms (Answers (Some apt.now) (map (λ (f : Bor (List ℕ)). Some f.now) stms.items) targets) old new outcome
    → WritesTerms (Answers (Some one.now) (map (λ (f : Bor (List ℕ)). Some f.now) more.items) wanted) old new outcome
opened_as Answers apt one stms more targets wanted old new outcome a s t w =
    subst (λ x. WritesTerms (Answers (Some one.now) (map (λ (f : Bor (List ℕ)). Some f.now) more.items) x) old new
    outcome) t
    (subst (λ (x : Vec (Bor (List ℕ)) Global). WritesTerms
    (Answers (Some one.now) (map (λ (f : Bor (List ℕ)). Some f.now) x.items) targets) old new outcome) s
    (subst (λ (x : Bor (List ℕ)). WritesTerms
    (Answers (Some x.now) (map (λ (f : Bor (List ℕ)). Some f.now) stms.items) targets) old new outcome) a w))

-- what was answered was put, or the line of memory
pub told : {A : Type 0} (IsAsked : A → ℕ → Type 0)
    (Answers : A → List ℕ → List ℕ → List (Option (List ℕ)) → Result (List ℕ) TermsFault → Type 0)
    (lengths bytes : List ℕ) (r : Result (List ℕ) Stop) (old new : List ℕ) (written result : ℕ)
    → Tells (AnswersCall IsAsked Answers lengths bytes) r
    → IsPutAs (text_in r) (status_in r) old new written result ⊎ IsPutAs memory_line 3 old new written result
    → IsPut (AnswersCall IsAsked Answers lengths bytes) old new written result
told IsAsked Answers lengths bytes r old new written result a (inl put) = (text_in r, status_in r, a, put)
told IsAsked Answers lengths bytes r old new written result a (inr put) =
    (memory_line, 3, no_memory_told IsAsked Answers lengths bytes, put)

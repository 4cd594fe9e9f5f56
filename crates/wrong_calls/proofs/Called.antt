-- What is known of an answer of a call over several files.
use Rattle.std.proofs.Common.{◌≡◌, ◌<◌, ℕ, ◌+◌, List, [], ◌∷◌, length, map, Option, Some, Result, Ok, inl, inr, sym, ap, ◌∙◌, subst, arith}
use Rattle.std.proofs.lemmas.List.{length-map}
use Rattle.buckfleet_engine_files.specs.declared.fault.EngineFault.{EngineFault}
use Rattle.buckfleet_engine_files.specs.declared.fault.EngineFault.TheVariants.{Read, Write, Apt, Stm, Journal, JournalOf, Replay, ReplayOf, Check, Seats, Full, Memory, Close}
use Rattle.buckfleet_engine_files.specs.Faults.{status_of, status_or}
use Rattle.buck_apt.specs.Faults.{apt_numbers}
use Rattle.buck_stem.specs.Faults.{stm_numbers}
use Rattle.buck_book_journal.specs.Faults.{journal_numbers, replay_numbers}
use Rattle.buck_fleet_close_fault.specs.Faults.{close_numbers}
use Rattle.buckfleet_terms_files.specs.declared.fault.TermsFault.{TermsFault}
use Rattle.buckfleet_terms_files.specs.declared.fault.TermsFault.TheVariants.{Run, Targets, Own}
use Rattle.buckfleet_terms_files.specs.Faults.{own_numbers, targets_numbers, terms_status}
use Rattle.buck_c_calls.specs.Room.{IsPut, IsPutAs}
use Rattle.buck_c_calls.specs.Several.{AnswersCall, AreHanded, IsAnswered}
use Rattle.buck_c_calls.specs.Turns.{AreFiles}
use Rattle.wrong_calls.proofs.Fits.{but_6, fits_or_not, never_of}

-- the statuses that a fault may have
abbrev IsFaultStatus : ℕ → Type 0
IsFaultStatus status = (0 < status) × (status < 6)

numbered : (refused : ℕ) (numbers : List ℕ) → IsFaultStatus refused → IsFaultStatus (status_or refused numbers)
numbered refused [] is = (omega arith, omega arith)
numbered refused (n ∷ ns) is = is

of_run : (fault : EngineFault) → IsFaultStatus (status_of fault)
of_run (Read file) = (omega arith, omega arith)
of_run Write = (omega arith, omega arith)
of_run (Apt fault) = numbered 1 (apt_numbers fault) (omega arith, omega arith)
of_run (Stm file fault) = numbered 1 (stm_numbers fault) (omega arith, omega arith)
of_run (Journal fault) = numbered 1 (journal_numbers fault) (omega arith, omega arith)
of_run (JournalOf journal fault) = numbered 1 (journal_numbers fault) (omega arith, omega arith)
of_run (Replay fault) = numbered 4 (replay_numbers fault) (omega arith, omega arith)
of_run (ReplayOf journal fault) = numbered 4 (replay_numbers fault) (omega arith, omega arith)
of_run (Check fault) = (omega arith, omega arith)
of_run Seats = (omega arith, omega arith)
of_run Full = (omega arith, omega arith)
of_run Memory = (omega arith, omega arith)
of_run (Close fault) = numbered 4 (close_numbers fault) (omega arith, omega arith)

of_fault : (fault : TermsFault) → IsFaultStatus (terms_status fault)
of_fault (Run fault) = of_run fault
of_fault (Targets fault) = numbered 1 (targets_numbers fault) (omega arith, omega arith)
of_fault (Own fault) = numbered 1 (own_numbers fault) (omega arith, omega arith)

-- what is answered with status 0 is a text
text_of : {A : Type 0} (IsAsked : A → ℕ → Type 0)
    (Answers : A → List ℕ → List ℕ → List (Option (List ℕ)) → Result (List ℕ) TermsFault → Type 0)
    (lengths bytes text : List ℕ) (status : ℕ) → AnswersCall IsAsked Answers lengths bytes text status → status ≡ 0
    → IsAnswered IsAsked Answers lengths bytes (Ok text)
text_of IsAsked Answers lengths bytes text status (inl done) is = done.0
text_of IsAsked Answers lengths bytes text status (inr (inl (fault, why, line, told))) is =
    absurd (omega (arith, (of_fault fault).0, told, is))
text_of IsAsked Answers lengths bytes text status (inr (inr (none, empty, told))) is = absurd (omega (arith, told, is))

-- a call that has no text doesn't end well
pub never_done : {A : Type 0} (IsAsked : A → ℕ → Type 0)
    (Answers : A → List ℕ → List ℕ → List (Option (List ℕ)) → Result (List ℕ) TermsFault → Type 0)
    (lengths bytes old new : List ℕ) (written result : ℕ)
    → ((text : List ℕ) → IsAnswered IsAsked Answers lengths bytes (Ok text) → ⊥)
    → IsPut (AnswersCall IsAsked Answers lengths bytes) old new written result → result ≡ 0 → ⊥
never_done IsAsked Answers lengths bytes old new written result none put is =
    never_of (AnswersCall IsAsked Answers lengths bytes) old new written result 0 (omega arith)
    (λ text status a told. none text (text_of IsAsked Answers lengths bytes text status a told)) put is

-- with status 0 its text was put
pub done : {A : Type 0} (IsAsked : A → ℕ → Type 0)
    (Answers : A → List ℕ → List ℕ → List (Option (List ℕ)) → Result (List ℕ) TermsFault → Type 0)
    (lengths bytes old new : List ℕ) (written result : ℕ)
    → IsPut (AnswersCall IsAsked Answers lengths bytes) old new written result → result ≡ 0
    → (text : List ℕ) × IsAnswered IsAsked Answers lengths bytes (Ok text) × IsPutAs text 0 old new written result
done IsAsked Answers lengths bytes old new written result (text, status, a, put) is =
    let own = but_6 text status old new written result (λ e. omega (arith, is, e)) put ∙ is in (
      text,
      text_of IsAsked Answers lengths bytes text status a own,
      subst (λ s. IsPutAs text s old new written result) own put,
    )

misused_only : {A : Type 0} (IsAsked : A → ℕ → Type 0)
    (Answers : A → List ℕ → List ℕ → List (Option (List ℕ)) → Result (List ℕ) TermsFault → Type 0)
    (lengths bytes text : List ℕ) (status : ℕ) → AnswersCall IsAsked Answers lengths bytes text status → status ≡ 8
    → ((a : A) (apt other : List ℕ) (more : List (Option (List ℕ))) → AreHanded lengths bytes apt other more
    → IsAsked a (length more) → ⊥) × (text ≡ [])
misused_only IsAsked Answers lengths bytes text status (inl done) is = absurd (omega (arith, done.1, is))
misused_only IsAsked Answers lengths bytes text status (inr (inl (fault, why, line, told))) is =
    absurd (omega (arith, (of_fault fault).1, told, is))
misused_only IsAsked Answers lengths bytes text status (inr (inr (none, empty, told))) is = (none, empty)

-- a call isn't misused that asks what may be asked of its files
pub never_misused : {A : Type 0} (IsAsked : A → ℕ → Type 0)
    (Answers : A → List ℕ → List ℕ → List (Option (List ℕ)) → Result (List ℕ) TermsFault → Type 0)
    (lengths bytes old new : List ℕ) (written result : ℕ)
    (a : A) (apt other : List ℕ) (files : List (List ℕ)) → AreHanded lengths bytes apt other (map Some files)
    → IsAsked a (length (map Some files))
    → IsPut (AnswersCall IsAsked Answers lengths bytes) old new written result → result ≡ 8 → ⊥
never_misused IsAsked Answers lengths bytes old new written result a apt other files handed asked
    (text, status, answer, put) is =
    let own = but_6 text status old new written result (λ e. omega (arith, is, e)) put ∙ is in
    (misused_only IsAsked Answers lengths bytes text status answer own).0 a apt other (map Some files) handed asked

-- and one that is misused has no text
pub misused_empty : {A : Type 0} (IsAsked : A → ℕ → Type 0)
    (Answers : A → List ℕ → List ℕ → List (Option (List ℕ)) → Result (List ℕ) TermsFault → Type 0)
    (lengths bytes old new : List ℕ) (written result : ℕ)
    → IsPut (AnswersCall IsAsked Answers lengths bytes) old new written result → result ≡ 8 → written ≡ 0
misused_empty IsAsked Answers lengths bytes old new written result (text, status, answer, put) is =
    let own = but_6 text status old new written result (λ e. omega (arith, is, e)) put ∙ is in
    put.number_is ∙ ap (λ (t : List ℕ). length t) (misused_only IsAsked Answers lengths bytes text status answer own).1

never_6 : {A : Type 0} (IsAsked : A → ℕ → Type 0)
    (Answers : A → List ℕ → List ℕ → List (Option (List ℕ)) → Result (List ℕ) TermsFault → Type 0)
    (lengths bytes text : List ℕ) (status : ℕ) → AnswersCall IsAsked Answers lengths bytes text status → status ≡ 6 → ⊥
never_6 IsAsked Answers lengths bytes text status (inl done) is = omega (arith, done.1, is)
never_6 IsAsked Answers lengths bytes text status (inr (inl (fault, why, line, told))) is =
    omega (arith, (of_fault fault).1, told, is)
never_6 IsAsked Answers lengths bytes text status (inr (inr (none, empty, told))) is = omega (arith, told, is)

-- a room that is too small is left as it was
pub left : {A : Type 0} (IsAsked : A → ℕ → Type 0)
    (Answers : A → List ℕ → List ℕ → List (Option (List ℕ)) → Result (List ℕ) TermsFault → Type 0)
    (lengths bytes old new : List ℕ) (written result : ℕ)
    → IsPut (AnswersCall IsAsked Answers lengths bytes) old new written result → result ≡ 6 → new ≡ old
left IsAsked Answers lengths bytes old new written result (text, status, answer, put) is =
    elim (fits_or_not (length text) (length old)) [
      | inl fits ↦
          absurd (never_6 IsAsked Answers lengths bytes text status answer (sym (put.fits fits).1 ∙ is))
      | inr small ↦ (put.too_small small).0
    ]

-- there are two files more than those behind the second
pub two_more : (lengths bytes apt other : List ℕ) (more : List (Option (List ℕ)))
    → AreHanded lengths bytes apt other more → length lengths ≡ length more + 2
two_more lengths bytes apt other more h =
    let all : length (map (λ (f : List ℕ). length f) (apt ∷ other ∷ h.files)) ≡ length lengths =
    ap (λ (ns : List ℕ). length ns) h.are_files.0 in
    let are : length more ≡ length (map (λ (f : List ℕ). Some f) h.files) =
    ap (λ (fs : List (Option (List ℕ))). length fs) h.more_are in
    omega (
      arith,
      all,
      are,
      length-map h.files (λ (f : List ℕ). length f),
      length-map h.files (λ (f : List ℕ). Some f),
    )

-- a call doesn't end well that has no such files
pub none_handed : {A : Type 0} (IsAsked : A → ℕ → Type 0)
    (Answers : A → List ℕ → List ℕ → List (Option (List ℕ)) → Result (List ℕ) TermsFault → Type 0)
    (lengths bytes old new : List ℕ) (written result : ℕ)
    → ((apt other : List ℕ) (more : List (Option (List ℕ))) → AreHanded lengths bytes apt other more → ⊥)
    → IsPut (AnswersCall IsAsked Answers lengths bytes) old new written result → result ≡ 0 → ⊥
none_handed IsAsked Answers lengths bytes old new written result none put is =
    never_done IsAsked Answers lengths bytes old new written result
    (λ text a. none a.apt a.other a.more a.are_handed) put is

-- nor one that asks nothing that may be asked of so many files
pub none_asked : {A : Type 0} (IsAsked : A → ℕ → Type 0)
    (Answers : A → List ℕ → List ℕ → List (Option (List ℕ)) → Result (List ℕ) TermsFault → Type 0)
    (lengths bytes old new : List ℕ) (written result : ℕ)
    → ((a : A) (number : ℕ) → length lengths ≡ number + 2 → IsAsked a number → ⊥)
    → IsPut (AnswersCall IsAsked Answers lengths bytes) old new written result → result ≡ 0 → ⊥
none_asked IsAsked Answers lengths bytes old new written result none put is =
    never_done IsAsked Answers lengths bytes old new written result
    (λ text a. none a.asked (length a.more) (two_more lengths bytes a.apt a.other a.more a.are_handed) a.is_asked)
    put is

-- nor one whose files, however they are split, have no text
pub none_told : {A : Type 0} (IsAsked : A → ℕ → Type 0)
    (Answers : A → List ℕ → List ℕ → List (Option (List ℕ)) → Result (List ℕ) TermsFault → Type 0)
    (lengths bytes old new : List ℕ) (written result : ℕ)
    → ((a : A) (apt other : List ℕ) (files : List (List ℕ)) (text : List ℕ)
    → AreFiles lengths bytes (apt ∷ other ∷ files) → Answers a apt other (map Some files) (Ok text) → ⊥)
    → IsPut (AnswersCall IsAsked Answers lengths bytes) old new written result → result ≡ 0 → ⊥
none_told IsAsked Answers lengths bytes old new written result none put is =
    never_done IsAsked Answers lengths bytes old new written result
    (λ text a. none a.asked a.apt a.other a.are_handed.files text a.are_handed.are_files
    (subst (λ (more : List (Option (List ℕ))). Answers a.asked a.apt a.other more (Ok text)) a.are_handed.more_are
    a.answers)) put is

-- What is answered to files.
use Rattle.std.proofs.Common.{◌≡◌, ◌⊎◌, ℕ, ◌≤◌, inl, inr, List, Option, Result, Ok, Err, length, refl, sym, ap, subst, ◌∙◌}
use Rattle.std.specs.Result.{IsErrAnd}
use Rattle.std.specs.declared.vec.Vec.{Vec}
use Rattle.buck_record.specs.Reading.{listed}
use Rattle.buck_apt.specs.Apt.{apt_of}
use Rattle.buck_apt_instruction.specs.Instruction.{InstructionParts}
use Rattle.buck_apt_instruction.specs.Settings.{SettingsParts, with_settings}
use Rattle.buck_book_postings.specs.History.{IsLawful}
use Rattle.buck_book_postings.specs.declared.posting.TheConstants.{MOST_POSTINGS}
use Rattle.buck_book_journal.specs.declared.replay_fault.ReplayFault.{ReplayFault}
use Rattle.buck_book_journal.specs.Journal.{JournalParts, history_of}
use Rattle.buck_book_replay.specs.Replay.{IsFirstFault}
use Rattle.buck_page_figures.specs.Journals.{postings_of}
use Rattle.buckfleet_engine_files.specs.declared.fault.EngineFault.{EngineFault}
use Rattle.buckfleet_engine_files.specs.declared.fault.EngineFault.TheVariants.{Memory, ReplayOf}
use Rattle.buckfleet_engine_files.specs.Reading.{Says, apt_with}
use Rattle.buckfleet_engine_files.specs.Several.{AreLawful, HaveJournals, IsFirstUnlawful, IsSeveralFault, replay_fault}
use Rattle.buckfleet_terms_files.specs.declared.fault.TermsFault.{TermsFault}
use Rattle.buckfleet_terms_files.specs.declared.fault.TermsFault.TheVariants.{Run}
use Rattle.buckfleet_terms_files.specs.Own.{HasShapeOf}
use Rattle.buckfleet_terms_files.specs.Reading.{IsOwnFileFault}
use Rattle.buckfleet_proceeds.specs.declared.appraisal.Appraisal.{Appraisal}
use Rattle.buckfleet_tasks.specs.declared.journals.CompareTask.{CompareTask}
use Rattle.buckfleet_proceeds.specs.Appraisal.{IsAppraisal}
use Rattle.buckfleet_proceeds.specs.Comparison.{SaysTwo}
use Rattle.buckfleet_proceeds.specs.Text.{appraisal_text}
use Rattle.buckfleet_proceeds.specs.Serving.{AnswersAppraise, AnswersCompare, HasOwner}

-- no text of an appraisal
module _ (settings : SettingsParts) (apt : Option (List ℕ)) (files : List (Option (List ℕ)))
    (own : Option (List ℕ) × ℕ) where
  pub files_stop : {A : Type 0} (e : EngineFault) (r : Result (Vec ℕ A) TermsFault) → IsErrAnd r (λ x. x ≡ Run e)
      → IsSeveralFault apt files e → AnswersAppraise settings apt files own (listed r)
  files_stop e (Ok v) h is = absurd h
  files_stop e (Err x) h is = inl (e, h, is)

  pub memory_stops : {A : Type 0} (r : Result (Vec ℕ A) TermsFault) → IsErrAnd r (λ x. x ≡ Run Memory)
      → AnswersAppraise settings apt files own (listed r)
  memory_stops r h = files_stop Memory r h (inl (inr (inl refl)))

  pub own_stops : {A : Type 0} (i : InstructionParts) (js : List JournalParts) (fault : TermsFault)
      (r : Result (Vec ℕ A) TermsFault) → IsErrAnd r (λ x. x ≡ fault)
      → Says (apt_with settings) apt (Ok i) → HaveJournals files js → length (postings_of js) ≤ MOST_POSTINGS
      → IsOwnFileFault own.1 i own.0 fault → AnswersAppraise settings apt files own (listed r)
  own_stops i js fault (Ok v) h says have few is = absurd h
  own_stops i js fault (Err x) h says have few is = inr (inl (record {
    instruction = i;
    read = js;
    apt_says = says;
    journals_say = have;
    few = few;
    holds = subst (IsOwnFileFault own.1 i own.0) (sym h) is;
  }))

  pub replay_stops : {A : Type 0} (i : InstructionParts) (js : List JournalParts) (e : EngineFault)
      (r : Result (Vec ℕ A) TermsFault) → IsErrAnd r (λ x. x ≡ Run e)
      → Says (apt_with settings) apt (Ok i) → HaveJournals files js → length (postings_of js) ≤ MOST_POSTINGS
      → HasOwner own.0 i
      → (e ≡ Memory) ⊎ ((place : ℕ) × (why : ReplayFault) × (e ≡ replay_fault (length js) place why)
      × IsFirstUnlawful i js place why)
      → AnswersAppraise settings apt files own (listed r)
  replay_stops i js e (Ok v) h says have few owned is = absurd h
  replay_stops {A = A} i js e (Err x) h says have few owned (inl memory) =
      memory_stops {A = A} (Err x) (h ∙ ap (λ f. Run f) memory)
  replay_stops i js e (Err x) h says have few owned (inr (place, why, named, first)) = inr (inr (record {
    instruction = i;
    read = js;
    apt_says = says;
    journals_say = have;
    few = few;
    holds = (
      owned,
      (
        place,
        why,
        h ∙ ap (λ f. Run f) (named ∙ ap (λ n. replay_fault n place why) have.one_each),
        first,
      ),
    );
  }))

  pub appraised_so : (i owner : InstructionParts) (js : List JournalParts) (text : List ℕ)
      → Says (apt_with settings) apt (Ok i) → HaveJournals files js → length (postings_of js) ≤ MOST_POSTINGS
      → Says apt_of own.0 (Ok owner) → HasShapeOf i owner → AreLawful i js
      → (p : Appraisal) × IsAppraisal owner (postings_of js) p × (text ≡ appraisal_text i p)
      → AnswersAppraise settings apt files own (Ok text)
  appraised_so i owner js text says have few own_says shape lawful (p, is, text_is) = record {
    instruction = i;
    journals = js;
    owner = owner;
    appraisal = p;
    apt_says = says;
    journals_say = have;
    few = few;
    own_says = own_says;
    shape = shape;
    lawful = lawful;
    is_appraisal = is;
    text_is = text_is;
  }

-- no text of a comparison
module _ (task : CompareTask) (apt : Option (List ℕ)) (files : List (Option (List ℕ))) where
  pub two_stop : {A : Type 0} (e : EngineFault) (r : Result (Vec ℕ A) EngineFault) → IsErrAnd r (λ x. x ≡ e)
      → IsSeveralFault apt files e → AnswersCompare task apt files (listed r)
  two_stop e (Ok v) h is = absurd h
  two_stop e (Err x) h is = inl (subst (IsSeveralFault apt files) (sym h) is)

  pub no_memory_for_two : {A : Type 0} (r : Result (Vec ℕ A) EngineFault) → IsErrAnd r (λ x. x ≡ Memory)
      → AnswersCompare task apt files (listed r)
  no_memory_for_two r h = two_stop Memory r h (inl (inr (inl refl)))

  pub first_stops : {A : Type 0} (i first : InstructionParts) (one other : JournalParts) (e : EngineFault)
      (r : Result (Vec ℕ A) EngineFault) → IsErrAnd r (λ x. x ≡ e) → SaysTwo apt files i one other
      → first ≡ with_settings task.first i
      → (e ≡ Memory) ⊎ ((why : ReplayFault) × (e ≡ ReplayOf 1 why) × IsFirstFault (history_of first one) why)
      → AnswersCompare task apt files (listed r)
  first_stops i first one other e (Ok v) h says numbers is = absurd h
  first_stops {A = A} i first one other e (Err x) h says numbers (inl memory) =
      no_memory_for_two {A = A} (Err x) (h ∙ memory)
  first_stops i first one other e (Err x) h says numbers (inr (why, named, is)) =
      inr (inr (
        i,
        one,
        other,
        says,
        inl (
          why,
          h ∙ named,
          subst (λ t. IsFirstFault (history_of t one) why) numbers is,
        ),
      ))

  pub second_stops : {A : Type 0} (i first second : InstructionParts) (one other : JournalParts) (e : EngineFault)
      (r : Result (Vec ℕ A) EngineFault) → IsErrAnd r (λ x. x ≡ e) → SaysTwo apt files i one other
      → first ≡ with_settings task.first i → second ≡ with_settings task.second i
      → IsLawful (history_of first one)
      → (e ≡ Memory) ⊎ ((why : ReplayFault) × (e ≡ ReplayOf 2 why) × IsFirstFault (history_of second other) why)
      → AnswersCompare task apt files (listed r)
  second_stops i first second one other e (Ok v) h says numbers numbers_too lawful is = absurd h
  second_stops {A = A} i first second one other e (Err x) h says numbers numbers_too lawful (inl memory) =
      no_memory_for_two {A = A} (Err x) (h ∙ memory)
  second_stops i first second one other e (Err x) h says numbers numbers_too lawful (inr (why, named, is)) =
      inr (inr (
        i,
        one,
        other,
        says,
        inr (
          subst (λ t. IsLawful (history_of t one)) numbers lawful,
          (
            why,
            h ∙ named,
            subst (λ t. IsFirstFault (history_of t other) why) numbers_too is,
          ),
        ),
      ))

  pub compared_so : (i first second : InstructionParts) (one other : JournalParts) (text : List ℕ)
      → SaysTwo apt files i one other
      → first ≡ with_settings task.first i → second ≡ with_settings task.second i
      → IsLawful (history_of first one) → IsLawful (history_of second other)
      → AnswersCompare task apt files (Ok text)
  compared_so i first second one other text says numbers numbers_too lawful lawful_too = (
    i,
    one,
    other,
    says,
    (
      subst (λ t. IsLawful (history_of t one)) numbers lawful,
      subst (λ t. IsLawful (history_of t other)) numbers_too lawful_too,
    ),
  )

pub ruleset appraised = (files_stop, memory_stops, own_stops, replay_stops, appraised_so)

pub ruleset compared = (two_stop, no_memory_for_two)

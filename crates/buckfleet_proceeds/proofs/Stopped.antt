-- How runs over files end.
use Rattle.std.proofs.Common.{◌≡◌, ℕ, ◌+◌, ◌==◌, inl, inr, true, false, cond, List, Option, None, Result, Ok, Err, length, sym, subst}
use Rattle.std.specs.Prelude.{slice_index_or}
use Rattle.std.specs.Result.{IsErrAnd}
use Rattle.std.specs.Io.KnownBytes.{Appends}
use Rattle.std.proofs.KnownBytes.{Keeps-refl}
use Rattle.buck_apt_instruction.specs.Instruction.{InstructionParts}
use Rattle.buck_apt.specs.Apt.{apt_of}
use Rattle.buck_apt_instruction.specs.Settings.{SettingsParts}
use Rattle.buck_book_journal.specs.Reading.{journal_of}
use Rattle.buckfleet_engine_files.specs.declared.fault.EngineFault.{EngineFault}
use Rattle.buckfleet_engine_files.specs.declared.fault.EngineFault.TheVariants.{Read, Write, Apt, Stm, Journal, JournalOf, Replay, ReplayOf, Check, Seats, Full, Memory, Close}
use Rattle.buckfleet_engine_files.specs.Several.{IsSeveralFault, journal_fault}
use Rattle.buckfleet_engine_files.specs.Written.{AppendsSome, IsWritten, WritesText}
use Rattle.buckfleet_engine_files.proofs.Runs.{IsNoWrite, file_fault, no_answer}
use Rattle.buckfleet_terms_files.specs.declared.fault.TermsFault.{TermsFault}
use Rattle.buckfleet_terms_files.specs.declared.fault.TermsFault.TheVariants.{Run, Targets, Own}
use Rattle.buckfleet_engine_files.specs.Opening.{AnswersInputs}
use Rattle.buckfleet_terms_files.specs.Reading.{AnswersLast, IsOwnFileFault}
use Rattle.buckfleet_terms_files.specs.Telling.{WritesTerms}
use Rattle.buckfleet_tasks.specs.declared.journals.CompareTask.{CompareTask}
use Rattle.buckfleet_proceeds.specs.Comparison.{IsCompareFault}
use Rattle.buckfleet_proceeds.specs.declared.opened.Opened.{Opened}
use Rattle.buckfleet_proceeds.specs.Serving.{AnswersAppraise, AnswersCompare, AnswersFiles, IsAppraiseFault}

-- no fault of a file is that of a writer
journal_no_write : (b : _) (place : ℕ) (why : _) → IsNoWrite (cond b (Journal why) (JournalOf (place + 1) why))
journal_no_write true place why = tt
journal_no_write false place why = tt

replay_no_write : (b : _) (place : ℕ) (why : _) → IsNoWrite (cond b (Replay why) (ReplayOf (place + 1) why))
replay_no_write true place why = tt
replay_no_write false place why = tt

several_no_write : (apt : Option (List ℕ)) (files : List (Option (List ℕ))) (fault : EngineFault)
    → IsSeveralFault apt files fault → IsNoWrite fault
several_no_write apt files fault (inl a) = file_fault 0 Apt apt_of apt fault (λ why. tt) a
several_no_write apt files fault (inr (ok, inl j)) =
    file_fault (j.place + 1) (journal_fault (length files) j.place) journal_of (slice_index_or files j.place None) fault
    (λ why. journal_no_write (length files == 1) j.place why) j.is_fault
several_no_write apt files fault (inr (ok, inr full)) = subst IsNoWrite (sym full.full) tt

-- a fault other than that of a writer
abbrev IsNotWrite : TermsFault → Type 0
IsNotWrite (Run fault) = IsNoWrite fault
IsNotWrite (Targets why) = Unit {0}
IsNotWrite (Own why) = Unit {0}

own_no_write : (number : ℕ) (i : InstructionParts) (file : Option (List ℕ)) (fault : TermsFault)
    → IsOwnFileFault number i file fault → IsNotWrite fault
own_no_write number i file fault (inl (inl is)) = subst IsNotWrite (sym is) tt
own_no_write number i file fault (inl (inr is)) = subst IsNotWrite (sym is) tt
own_no_write number i file fault (inr (inl is)) = subst IsNotWrite (sym is.1) tt
own_no_write number i file fault (inr (inr is)) = subst IsNotWrite (sym is.2) tt

appraise_no_write : (settings : SettingsParts) (apt : Option (List ℕ)) (files : List (Option (List ℕ)))
    (own : Option (List ℕ) × ℕ) (fault : TermsFault) → IsAppraiseFault settings apt files own fault → IsNotWrite fault
appraise_no_write settings apt files own fault (inl is) =
    subst IsNotWrite (sym is.1) (several_no_write apt files is.0 is.2)
appraise_no_write settings apt files own fault (inr (inl have)) =
    own_no_write own.1 have.instruction own.0 fault have.holds
appraise_no_write settings apt files own fault (inr (inr have)) =
    subst IsNotWrite (sym have.holds.1.2) (replay_no_write (length files == 1) have.holds.1.0 have.holds.1.1)

-- nothing is written if the answer is a fault
stopped : (Answers : Result (List ℕ) TermsFault → Type 0) (old : Option (List ℕ)) (fault : TermsFault)
    → IsNotWrite fault → Answers (Err fault) → WritesTerms Answers old old (Err fault)
stopped Answers old (Run (Read file)) other a = (a, Keeps-refl old)
stopped Answers old (Run Write) other a = absurd other
stopped Answers old (Run (Apt why)) other a = (a, Keeps-refl old)
stopped Answers old (Run (Stm file why)) other a = (a, Keeps-refl old)
stopped Answers old (Run (Journal why)) other a = (a, Keeps-refl old)
stopped Answers old (Run (JournalOf n why)) other a = (a, Keeps-refl old)
stopped Answers old (Run (Replay why)) other a = (a, Keeps-refl old)
stopped Answers old (Run (ReplayOf n why)) other a = (a, Keeps-refl old)
stopped Answers old (Run (Check why)) other a = (a, Keeps-refl old)
stopped Answers old (Run Seats) other a = (a, Keeps-refl old)
stopped Answers old (Run Full) other a = (a, Keeps-refl old)
stopped Answers old (Run Memory) other a = (a, Keeps-refl old)
stopped Answers old (Run (Close why)) other a = (a, Keeps-refl old)
stopped Answers old (Targets why) other a = (a, Keeps-refl old)
stopped Answers old (Own why) other a = (a, Keeps-refl old)

pub appraise_stopped : (settings : SettingsParts) (apt : Option (List ℕ)) (files : List (Option (List ℕ)))
    (own : Option (List ℕ) × ℕ) (old : Option (List ℕ)) (fault : TermsFault) (r : Result (Unit {0}) TermsFault)
    → IsErrAnd r (λ x. x ≡ fault) → AnswersAppraise settings apt files own (Err fault)
    → WritesTerms (AnswersAppraise settings apt files own) old old r
appraise_stopped settings apt files own old fault (Ok u) h a = absurd h
appraise_stopped settings apt files own old fault (Err x) h a =
    subst (λ (f : TermsFault). WritesTerms (AnswersAppraise settings apt files own) old old (Err f)) (sym h)
    (stopped (AnswersAppraise settings apt files own) old fault (appraise_no_write settings apt files own fault a) a)

-- a text is written, or a part of it
pub terms_written : (Answers : Result (List ℕ) TermsFault → Type 0) (old new : Option (List ℕ)) (text : List ℕ)
    → Answers (Ok text) → Appends old new text → WritesTerms Answers old new (Ok tt)
terms_written Answers old new text a all = (text, a, all)

pub terms_cut_off : (Answers : Result (List ℕ) TermsFault → Type 0) (old new : Option (List ℕ)) (text : List ℕ)
    (fault : EngineFault)
    → Answers (Ok text) → IsWritten old new text (Err fault) → WritesTerms Answers old new (Err (Run fault))
terms_cut_off Answers old new text fault a (is, some) =
    subst (λ (f : EngineFault). WritesTerms Answers old new (Err (Run f))) (sym is) (text, a, some)

-- the same of a comparison
compare_no_write : (task : CompareTask) (apt : Option (List ℕ)) (files : List (Option (List ℕ))) (fault : EngineFault)
    → IsCompareFault task.first task.second apt files fault → IsNoWrite fault
compare_no_write task apt files fault (inl is) = several_no_write apt files fault is
compare_no_write task apt files fault (inr (inl is)) = subst IsNoWrite (sym is) tt
compare_no_write task apt files fault (inr (inr (i, one, other, says, inl is))) = subst IsNoWrite (sym is.1) tt
compare_no_write task apt files fault (inr (inr (i, one, other, says, inr is))) = subst IsNoWrite (sym is.1.1) tt

pub compare_stopped : (task : CompareTask) (apt : Option (List ℕ)) (files : List (Option (List ℕ)))
    (old : Option (List ℕ)) (fault : EngineFault) (r : Result (Unit {0}) EngineFault)
    → IsErrAnd r (λ x. x ≡ fault) → AnswersCompare task apt files (Err fault)
    → WritesText (AnswersCompare task apt files) old old r
compare_stopped task apt files old fault (Ok u) h a = absurd h
compare_stopped task apt files old fault (Err x) h a =
    subst (λ (f : EngineFault). WritesText (AnswersCompare task apt files) old old (Err f)) (sym h)
    (no_answer (AnswersCompare task apt files) (Appends old old) (AppendsSome old old) _ fault
    (compare_no_write task apt files fault a) a (Keeps-refl old))

pub text_written : (Answers : Result (List ℕ) EngineFault → Type 0) (old new : Option (List ℕ)) (text : List ℕ)
    (r : Result (Unit {0}) EngineFault) → Answers (Ok text) → IsWritten old new text r → WritesText Answers old new r
text_written Answers old new text (Ok u) a all = (text, a, all)
text_written Answers old new text (Err fault) a (is, some) =
    subst (λ (f : EngineFault). WritesText Answers old new (Err f)) (sym is) (text, a, some)

-- all files are opened, or the last can't be
pub stops_before : {O F : Type 0} (opens : O → List ℕ → Option F → O → Type 0) (old between new : O) (apt : List ℕ)
    (journals : List (List ℕ)) (own : List ℕ) (number : ℕ) (opened : F × List F) (fault : EngineFault)
    (r : Result (Opened F) EngineFault)
    → IsErrAnd r (λ x. x ≡ fault) → AnswersInputs opens old between apt journals (Ok opened)
    → number ≡ length journals + 1 → AnswersLast {F = F} opens between new own number (Err fault)
    → AnswersFiles opens old new apt journals own r
stops_before opens old between new apt journals own number opened fault (Ok files) h inputs is last = absurd h
stops_before {F = F} opens old between new apt journals own number opened fault (Err x) h inputs is last =
    subst (λ (f : EngineFault). AnswersFiles {F = F} opens old new apt journals own (Err f)) (sym h) (inr (record {
      between = between;
      opened = opened;
      inputs = inputs;
      last = subst (λ n. AnswersLast {F = F} opens between new own n (Err fault)) is last;
    }))

pub ruleset terms = (appraise_stopped, terms_written, terms_cut_off)

pub ruleset texts = (compare_stopped, text_written)

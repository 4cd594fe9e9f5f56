-- The files of a trial with an owner's instruction, and how a run over them ends.
use Rattle.std.proofs.Common.{◌≡◌, ◌∙◌, ℕ, inl, inr, min, List, Option, Result, Ok, Err, ap, map, subst, sym}
use Rattle.std.specs.Option.{option_map}
use Rattle.std.specs.Result.{IsErrAnd}
use Rattle.std.proofs.KnownBytes.{Keeps-refl}
use Rattle.buck_apt_instruction.specs.Instruction.{InstructionParts}
use Rattle.buckfleet_engine_files.specs.declared.fault.EngineFault.{EngineFault}
use Rattle.buckfleet_terms_files.specs.declared.fault.TermsFault.{TermsFault}
use Rattle.buckfleet_terms_files.specs.declared.fault.TermsFault.TheVariants.{Run}
use Rattle.buckfleet_terms_files.specs.Reading.{AnswersLast, IsOwnFileFault}
use Rattle.buckfleet_terms_files.specs.Telling.{WritesTerms}
use Rattle.buckfleet_trial_owned.specs.declared.owned.OwnedFiles.{OwnedFiles}
use Rattle.buckfleet_trial.specs.declared.reading.Opened.{Opened}
use Rattle.buckfleet_tasks.specs.declared.trials.OwnedTask.{OwnedTask}
use Rattle.buckfleet_trial.specs.Inputs.{AnswersFiles}
use Rattle.buckfleet_trial_owned.specs.Owned.{AnswersOwnedFiles, RunsOwned, files_before}
use Rattle.buckfleet_trial.proofs.Ended.{IsNoWriteTerms, no_terms}

no_write_own : (number : ℕ) (i : InstructionParts) (file : Option (List ℕ)) (fault : TermsFault)
    → IsOwnFileFault number i file fault → IsNoWriteTerms fault
no_write_own number i file fault (inl (inl read)) = subst IsNoWriteTerms (sym read) tt
no_write_own number i file fault (inl (inr memory)) = subst IsNoWriteTerms (sym memory) tt
no_write_own number i file fault (inr (inl said)) = subst IsNoWriteTerms (sym said.1) tt
no_write_own number i file fault (inr (inr said)) = subst IsNoWriteTerms (sym said.2) tt

-- nothing is written if the owner's instruction is refused
pub own_refused : (Answers : Result (List ℕ) TermsFault → Type 0) (number : ℕ) (i : InstructionParts)
    (file : Option (List ℕ)) (old : Option (List ℕ)) (fault : TermsFault) (r : Result (Unit {0}) TermsFault)
    → IsErrAnd r (λ x. x ≡ fault) → IsOwnFileFault number i file fault
    → ((e : TermsFault) → IsOwnFileFault number i file e → Answers (Err e)) → WritesTerms Answers old old r
own_refused Answers number i file old fault (Ok u) err is refused = absurd err
own_refused Answers number i file old fault (Err e) err is refused =
    let here : IsOwnFileFault number i file e =
    subst (λ (x : TermsFault). IsOwnFileFault number i file x) (sym err) is in
    no_terms Answers old e (no_write_own number i file e here) (refused e here)

-- a file of the trial can't be opened
pub trial_stops : {O F : Type 0} (opens : O → List ℕ → Option F → O → Type 0) (old new : O) (apt : List ℕ)
    (names stms : List (List ℕ)) (targets : Option (List ℕ)) (own : List ℕ) (fault : EngineFault)
    (r : Result (OwnedFiles F) EngineFault) → IsErrAnd r (λ x. x ≡ fault) → names ≡ stms
    → AnswersFiles {F = F} opens old new apt names targets (Err fault)
    → AnswersOwnedFiles opens old new apt stms targets own r
trial_stops opens old new apt names stms targets own fault (Ok files) err same is = absurd err
trial_stops {O} {F} opens old new apt names stms targets own fault (Err e) err same is =
    inl (subst (λ (x : EngineFault). AnswersFiles {F = F} opens old new apt stms targets (Err x)) (sym err)
    (subst (λ (l : List (List ℕ)). AnswersFiles {F = F} opens old new apt l targets (Err fault)) same is))

-- that of the owner's instruction can't be
pub own_stops : {O F : Type 0} (opens : O → List ℕ → Option F → O → Type 0) (old between new : O) (apt : List ℕ)
    (names stms : List (List ℕ)) (targets : Option (List ℕ)) (own : List ℕ) (n : ℕ) (opened : Opened F)
    (fault : EngineFault) (r : Result (OwnedFiles F) EngineFault) → IsErrAnd r (λ x. x ≡ fault) → names ≡ stms
    → n ≡ files_before names targets → AnswersFiles opens old between apt names targets (Ok opened)
    → AnswersLast {F = F} opens between new own (min n 4294967295) (Err fault)
    → AnswersOwnedFiles opens old new apt stms targets own r
own_stops opens old between new apt names stms targets own n opened fault (Ok files) err same number trial last = absurd err
own_stops {O} {F} opens old between new apt names stms targets own n opened fault (Err e) err same number trial last =
    inr (record {
      between = between;
      opened = opened;
      trial = subst (λ (l : List (List ℕ)). AnswersFiles opens old between apt l targets (Ok opened)) same trial;
      last =
          subst (λ (x : EngineFault). AnswersLast {F = F} opens between new own
          (min (files_before stms targets) 4294967295) (Err x)) (sym err)
          (subst (λ (k : ℕ). AnswersLast {F = F} opens between new own (min k 4294967295) (Err fault))
          (number ∙ ap (λ (l : List (List ℕ)). files_before l targets) same) last);
    })

-- all are open
pub owned_opened : {O F : Type 0} (opens : O → List ℕ → Option F → O → Type 0) (old between new : O) (apt : List ℕ)
    (names stms : List (List ℕ)) (targets : Option (List ℕ)) (own : List ℕ) (n : ℕ) (opened : Opened F)
    (last : F × ℕ) → names ≡ stms → n ≡ files_before names targets
    → AnswersFiles opens old between apt names targets (Ok opened)
    → AnswersLast opens between new own (min n 4294967295) (Ok last)
    → AnswersOwnedFiles opens old new apt stms targets own (Ok (record { files = opened; own = last }))
owned_opened opens old between new apt names stms targets own n opened last same number trial is = record {
  between = between;
  trial = subst (λ (l : List (List ℕ)). AnswersFiles opens old between apt l targets (Ok opened)) same trial;
  last =
      subst (λ (k : ℕ). AnswersLast opens between new own (min k 4294967295) (Ok last))
      (number ∙ ap (λ (l : List (List ℕ)). files_before l targets) same) is;
}

-- a whole run whose files can't all be opened
pub owned_not_served : {O F : Type 0} (opens : O → List ℕ → Option F → O → Type 0) (held : F → Option (List ℕ))
    (start end : O) (task : OwnedTask) (old : Option (List ℕ)) (why : EngineFault) (r : Result (Unit {0}) TermsFault)
    → IsErrAnd r (λ x. x ≡ Run why)
    → AnswersOwnedFiles {F = F} opens start end task.trial.apt.now (map (λ s. s.now) task.trial.stms.items)
    (option_map (λ s. s.now) task.trial.targets) task.own.now (Err why) → RunsOwned opens held start end task old old r
owned_not_served opens held start end task old why (Ok u) err is = absurd err
owned_not_served opens held start end task old why (Err e) err is = record {
  opened = Err why;
  answers = is;
  runs = (ap Err err, Keeps-refl old);
}

-- How a run over files ends.
use Rattle.std.proofs.Common.{◌≡◌, ◌⊎◌, ℕ, inl, inr, List, length, Option, Some, None, Result, Ok, Err, refl, sym, ap, subst}
use Rattle.std.specs.Result.{IsErrAnd}
use Rattle.std.specs.declared.sync.Arc.{Arc}
use Rattle.std.specs.declared.vec.Vec.{Vec}
use Rattle.std.specs.declared.alloc.Global.{Global}
use Rattle.std.specs.Io.KnownBytes.{Appends, Keeps}
use Rattle.std.proofs.KnownBytes.{Keeps-refl}
use Rattle.buck_apt_instruction.specs.Instruction.{InstructionParts}
use Rattle.buck_stem_shape.specs.declared.stem.Stem.{Stem}
use Rattle.buckfleet_engine_files.specs.declared.fault.EngineFault.{EngineFault}
use Rattle.buckfleet_engine_files.specs.declared.fault.EngineFault.TheVariants.{Full, Write}
use Rattle.buckfleet_engine_input.specs.Harvest.{HaveTooMany, IsCuttingFault, IsFleetFault}
use Rattle.buckfleet_engine_files.specs.Written.{AppendsSome, IsWritten, WritesText}
use Rattle.buckfleet_engine_input.proofs.ListLemmas.{accepted, too_many, fleet_fault}
use Rattle.buckfleet_engine_files.proofs.Runs.{IsNoWrite, no_answer}
use Rattle.buckfleet_trial_sweep.specs.Runs.{IsStop}
use Rattle.buckfleet_terms_files.specs.declared.fault.TermsFault.{TermsFault}
use Rattle.buckfleet_terms_files.specs.declared.fault.TermsFault.TheVariants.{Run}
use Rattle.buckfleet_terms_files.specs.Telling.{WritesTerms}
use Rattle.buckfleet_trial.specs.declared.reading.Opened.{Opened}
use Rattle.buckfleet_trial.specs.Inputs.{AnswersFiles, IsInputFault, IsTargetsStop, SaysInput}
use Rattle.buckfleet_trial.proofs.ReadLemmas.{no_crew}
use Rattle.buckfleet_trial.specs.Serving.{RunsFiles}
use Rattle.buckfleet_trial.specs.Running.{AnswersOver, in_terms}

no_write : (fault : EngineFault) → IsCuttingFault fault → IsNoWrite fault
no_write fault (inl full) = subst IsNoWrite (sym full) tt
no_write fault (inr (inl memory)) = subst IsNoWrite (sym memory) tt
no_write fault (inr (inr close)) = subst IsNoWrite (sym close.1) tt

-- lists that aren't cut are those of files that were read
pub stop_is_fault : (apt : Option (List ℕ)) (stms : List (Option (List ℕ))) (targets : Option (Option (List ℕ) × ℕ))
    (i : InstructionParts) (lists : List (Vec (Arc Stem Global) Global)) (fault : EngineFault)
    → SaysInput apt stms targets i lists → IsStop lists fault → IsInputFault apt stms targets (Run fault)
stop_is_fault apt stms targets i lists fault says stop = record {
  seats = no_crew (length stms) says.crew;
  cause = inl (
    fault,
    refl,
    inr (inr ((says.own, says.apt_says), inr (accepted (length stms) stms lists says.stms_say, stop.0))),
    too_many {X = Unit {0}} stms lists (length stms) (Err fault) says.one_each refl says.stms_say stop.1,
  );
}

-- nothing is written if lists aren't cut
pub nothing_over : (lists : List (Vec (Arc Stem Global) Global)) (IsText : List ℕ → Type 0) (old : Option (List ℕ))
    (fault : EngineFault) → IsStop lists fault → WritesText (AnswersOver lists IsText) old old (Err fault)
nothing_over lists IsText old fault stop =
    no_answer (AnswersOver lists IsText) (Appends old old) (AppendsSome old old) (Keeps old old) fault
    (no_write fault stop.0) stop (Keeps-refl old)

-- a text was written, or some first bytes of it
pub written_over : (lists : List (Vec (Arc Stem Global) Global)) (IsText : List ℕ → Type 0) (old new : Option (List ℕ))
    (text shown : List ℕ) (r : Result (Unit {0}) EngineFault) → IsText text → shown ≡ text
    → IsWritten old new shown r → WritesText (AnswersOver lists IsText) old new r
written_over lists IsText old new text shown (Ok u) is same all =
    (text, is, subst (λ (t : List ℕ). Appends old new t) same all)
written_over lists IsText old new text shown (Err e) is same (write, some) =
    subst (λ (f : EngineFault). WritesText (AnswersOver lists IsText) old new (Err f)) (sym write)
    (text, is, subst (λ (t : List ℕ). AppendsSome old new t) same some)

-- the same over the files
pub terms_run : (lists : List (Vec (Arc Stem Global) Global)) (IsText : List ℕ → Type 0)
    (Answers : Result (List ℕ) TermsFault → Type 0) (old new : Option (List ℕ)) (r : Result (Unit {0}) EngineFault)
    → ((text : List ℕ) → IsText text → Answers (Ok text))
    → ((fault : EngineFault) → IsStop lists fault → Answers (Err (Run fault)))
    → WritesText (AnswersOver lists IsText) old new r → WritesTerms Answers old new (in_terms r)
terms_run lists IsText Answers old new (Ok u) text stop h = (h.0, text h.0 h.1, h.2)
terms_run lists IsText Answers old new (Err Write) text stop h = (h.0, text h.0 h.1, h.2)
terms_run lists IsText Answers old new (Err fault) text stop h = (stop fault h.0, h.1)

abbrev pub IsNoWriteTerms : TermsFault → Type 0
IsNoWriteTerms (Run fault) = IsNoWrite fault
IsNoWriteTerms _ = Unit {0}

-- nothing is written if the files come to nothing
pub no_terms : (Answers : Result (List ℕ) TermsFault → Type 0) (old : Option (List ℕ)) (fault : TermsFault)
    → IsNoWriteTerms fault → Answers (Err fault) → WritesTerms Answers old old (Err fault)
no_terms Answers old (Run Write) other a = absurd other
no_terms Answers old fault other a = (a, Keeps-refl old)

no_write_terms : (apt : Option (List ℕ)) (stms : List (Option (List ℕ))) (targets : Option (Option (List ℕ) × ℕ))
    (fault : TermsFault)
    → ((why : EngineFault) × (fault ≡ Run why) × IsFleetFault apt stms why × (why ≡ Full → HaveTooMany stms))
    ⊎ IsTargetsStop apt stms targets fault → IsNoWriteTerms fault
no_write_terms apt stms targets fault (inl (why, is, fleet, full)) =
    subst IsNoWriteTerms (sym is) (fleet_fault apt stms why fleet)
no_write_terms apt stms None fault (inr stop) = absurd stop
no_write_terms apt stms (Some file) fault (inr stop) = elim stop.is_fault [
  | inl (inl read) ↦ subst IsNoWriteTerms (sym read) tt
  | inl (inr memory) ↦ subst IsNoWriteTerms (sym memory) tt
  | inr (why, is, said) ↦ subst IsNoWriteTerms (sym is) tt
]

pub nothing_made : (lists : List (Vec (Arc Stem Global) Global)) (IsText : List ℕ → Type 0) (old : Option (List ℕ))
    (fault : EngineFault) (r : Result (Unit {0}) EngineFault) → IsErrAnd r (λ x. x ≡ fault) → IsStop lists fault
    → WritesText (AnswersOver lists IsText) old old r
nothing_made lists IsText old fault (Ok u) err stop = absurd err
nothing_made lists IsText old fault (Err e) err stop =
    nothing_over lists IsText old e (subst (λ (x : EngineFault). IsStop lists x) (sym err) stop)

-- a run over files that come to nothing
pub not_read : (Answers : Result (List ℕ) TermsFault → Type 0) (apt : Option (List ℕ)) (stms : List (Option (List ℕ)))
    (targets : Option (Option (List ℕ) × ℕ)) (old : Option (List ℕ)) (fault : TermsFault)
    (r : Result (Unit {0}) TermsFault) → IsErrAnd r (λ x. x ≡ fault) → IsInputFault apt stms targets fault
    → ((e : TermsFault) → IsInputFault apt stms targets e → Answers (Err e)) → WritesTerms Answers old old r
not_read Answers apt stms targets old fault (Ok u) err is refused = absurd err
not_read Answers apt stms targets old fault (Err e) err is refused =
    let here : IsInputFault apt stms targets e =
    subst (λ (x : TermsFault). IsInputFault apt stms targets x) (sym err) is in
    no_terms Answers old e (no_write_terms apt stms targets e here.cause) (refused e here)

-- and one over files that were read
pub files_run : (Answers : Result (List ℕ) TermsFault → Type 0) (IsText : List ℕ → Type 0) (apt : Option (List ℕ))
    (stms : List (Option (List ℕ))) (targets : Option (Option (List ℕ) × ℕ)) (i : InstructionParts)
    (lists : List (Vec (Arc Stem Global) Global)) (old new : Option (List ℕ)) (made : Result (Unit {0}) EngineFault)
    (r : Result (Unit {0}) TermsFault) → r ≡ in_terms made → SaysInput apt stms targets i lists
    → ((text : List ℕ) → IsText text → Answers (Ok text))
    → ((e : TermsFault) → IsInputFault apt stms targets e → Answers (Err e))
    → WritesText (AnswersOver lists IsText) old new made → WritesTerms Answers old new r
files_run Answers IsText apt stms targets i lists old new made r is says text refused written =
    subst (λ (x : Result (Unit {0}) TermsFault). WritesTerms Answers old new x) (sym is)
    (terms_run lists IsText Answers old new made text
    (λ fault stop. refused (Run fault) (stop_is_fault apt stms targets i lists fault says stop)) written)

-- a whole run whose files can't all be opened
pub not_served : {O F : Type 0} (opens : O → List ℕ → Option F → O → Type 0)
    (Answers : Opened F → Result (List ℕ) TermsFault → Type 0) (start end : O) (apt : List ℕ)
    (names stms : List (List ℕ)) (targets : Option (List ℕ)) (old : Option (List ℕ)) (why : EngineFault)
    (r : Result (Unit {0}) TermsFault) → IsErrAnd r (λ x. x ≡ Run why) → names ≡ stms
    → AnswersFiles opens start end apt names targets (Err why)
    → RunsFiles opens Answers start end apt stms targets old old r
not_served opens Answers start end apt names stms targets old why (Ok u) err same is = absurd err
not_served opens Answers start end apt names stms targets old why (Err e) err same is = record {
  opened = Err why;
  answers = subst (λ (l : List (List ℕ)). AnswersFiles opens start end apt l targets (Err why)) same is;
  runs = (ap Err err, Keeps-refl old);
}

-- and one whose files were opened
pub served : {O F : Type 0} (opens : O → List ℕ → Option F → O → Type 0)
    (Answers : Opened F → Result (List ℕ) TermsFault → Type 0) (start end : O) (apt : List ℕ)
    (names stms : List (List ℕ)) (targets : Option (List ℕ)) (old new : Option (List ℕ)) (files : Opened F)
    (r : Result (Unit {0}) TermsFault) → names ≡ stms → AnswersFiles opens start end apt names targets (Ok files)
    → WritesTerms (Answers files) old new r → RunsFiles opens Answers start end apt stms targets old new r
served opens Answers start end apt names stms targets old new files r same is run = record {
  opened = Ok files;
  answers = subst (λ (l : List (List ℕ)). AnswersFiles opens start end apt l targets (Ok files)) same is;
  runs = run;
}

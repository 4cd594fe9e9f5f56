-- What is answered to an instruction, a journal and stem files, which are read one after the other.
use Rattle.std.proofs.Common.{◌≡◌, ℕ, ◌+◌, ◌<◌, ◌≤◌, inl, inr, List, [], ◌∷◌, ◌++◌, length, Option, None, Result, Ok, Err, refl, sym, ap, subst, ◌∙◌, arith}
use Rattle.std.specs.Prelude.{slice_index_or}
use Rattle.std.specs.Result.{IfErr, IsErrAnd}
use Rattle.std.specs.declared.vec.Vec.{Vec}
use Rattle.std.specs.declared.alloc.Global.{Global}
use Rattle.std.proofs.lemmas.Bool.{cases_lt}
use Rattle.std.proofs.lemmas.List.{get_or_append_left, get_or_push, length-map}
use Rattle.buck_record.specs.Reading.{listed}
use Rattle.buck_apt_instruction.specs.Instruction.{InstructionParts}
use Rattle.buck_stem_shape.specs.Stem.{StemParts}
use Rattle.buck_stem_shape.specs.declared.stem.Stem.{Stem}
use Rattle.buck_stem.specs.Stm.{stm_of}
use Rattle.std.specs.Io.KnownBytes.{Appends, Keeps}
use Rattle.std.proofs.KnownBytes.{Keeps-refl}
use Rattle.buck_book_postings.specs.History.{HistoryParts, IsLawful}
use Rattle.buck_book_journal.specs.Journal.{JournalParts, history_of}
use Rattle.buck_book_journal.specs.Reading.{journal_of}
use Rattle.buckfleet_engine_files.specs.declared.fault.EngineFault.{EngineFault}
use Rattle.buckfleet_engine_files.specs.declared.fault.EngineFault.TheVariants.{Memory}
use Rattle.buck_rule.specs.declared.named.NamedRule.{NamedRule}
use Rattle.buckfleet_engine_files.specs.Reading.{IfStopped, IsStmFault, ReadsApt, Says}
use Rattle.buckfleet_engine_files.specs.Checking.{IsUnlawful}
use Rattle.buckfleet_engine_files.specs.Written.{AppendsSome, WritesText}
use Rattle.buckfleet_engine_files.proofs.Runs.{IsNoWrite, file_fault, no_answer}
use Rattle.buckfleet_engine_cross_check.specs.Answers.{AnswersCheckWith, AnswersTies, HaveRead, IsInputFault, IsStemsFileFault}
use Rattle.buckfleet_engine_cross_check.specs.inner.Tie.{AreStemsOf, IsTiedInputFault, IsUntiedFault, stems_in_lists}

-- one file more
one_file_more : (k : ℕ) (stms : List (Option (List ℕ))) (files : List (List StemParts)) (file : List StemParts)
    → length files ≡ k → AreStemsOf k stms files → Says stm_of (slice_index_or stms k None) (Ok file)
    → AreStemsOf (k + 1) stms (files ++ file ∷ [])
one_file_more k stms files file long made one j lt = elim (cases_lt j k) [
  | inl less ↦
      subst (λ (stems : List StemParts). Says stm_of (slice_index_or stms j None) (Ok stems))
      (sym (get_or_append_left files (file ∷ []) [] j (omega (arith, less, long)))) (made j less)
  | inr more ↦
      let last : k ≡ j = omega (arith, lt, more) in
      let here : length files ≡ j = long ∙ last in
      subst (λ (stems : List StemParts). Says stm_of (slice_index_or stms j None) (Ok stems))
      (sym (get_or_push files file [] j here))
      (subst (λ (n : ℕ). Says stm_of (slice_index_or stms n None) (Ok file)) last one)
]

in_lists_more : (lists : List (Vec Stem Global)) (list : Vec Stem Global)
    → stems_in_lists (lists ++ list ∷ []) ≡ stems_in_lists lists ++ list.items ∷ []
in_lists_more [] list = refl
in_lists_more (x ∷ xs) list = ap (λ (l : List (List StemParts)). x.items ∷ l) (in_lists_more xs list)

pub files_more : (k : ℕ) (stms : List (Option (List ℕ))) (lists new : List (Vec Stem Global)) (list : Vec Stem Global)
    → length lists ≡ k → new ≡ lists ++ list ∷ [] → AreStemsOf k stms (stems_in_lists lists)
    → Says stm_of (slice_index_or stms k None) (Ok list.items)
    → AreStemsOf (k + 1) stms (stems_in_lists new)
files_more k stms lists new list long is made one =
    let more : stems_in_lists new ≡ stems_in_lists lists ++ list.items ∷ [] = ap stems_in_lists is
    ∙ in_lists_more lists list in
    subst (AreStemsOf (k + 1) stms) (sym more)
    (one_file_more k stms (stems_in_lists lists) list.items (length-map lists _ ∙ long) made one)

-- the file at a place is the first that has a fault
pub file_refused : (k : ℕ) (stms : List (Option (List ℕ))) (files : List (List StemParts)) (known : Option (List ℕ))
    (e : EngineFault) (number : ℕ)
    → k < length stms → AreStemsOf k stms files → known ≡ slice_index_or stms k None → IsStmFault number known e
    → number ≡ k + 2 → IsStemsFileFault stms e
file_refused k stms files known e number lt made is fault from_2 = record {
  place = k;
  exists = lt;
  accepted = λ j less. (slice_index_or files j [], made j less);
  is_fault =
      subst (λ (n : ℕ). IsStmFault n (slice_index_or stms k None) e) from_2
      (subst (λ (o : Option (List ℕ)). IsStmFault number o e) is fault);
}

-- memory ran out at a place
pub file_lost : {X : Type 0} (k : ℕ) (stms : List (Option (List ℕ))) (files : List (List StemParts))
    (r : Result X EngineFault)
    → k < length stms → AreStemsOf k stms files → IsErrAnd r (λ e. e ≡ Memory) → IfErr r (IsStemsFileFault stms)
file_lost k stms files (Ok x) lt made is = tt
file_lost k stms files (Err e) lt made is =
    record {
      place = k;
      exists = lt;
      accepted = λ j less. (slice_index_or files j [], made j less);
      is_fault =
          inr (inl is);
    }

-- a stem file of a number is the last that was read
pub stopped_at : (Last : ℕ → Type 0) (number : ℕ) (known : Option (List ℕ)) (e : EngineFault)
    → IsStmFault number known e → Last number → IfStopped Last e
stopped_at Last number known e (inl read) last = subst (IfStopped Last) (sym read) last
stopped_at Last number known e (inr (inl memory)) last = subst (IfStopped Last) (sym memory) tt
stopped_at Last number known e (inr (inr (why, is, says))) last = subst (IfStopped Last) (sym is) last

-- a lawful history isn't tied
pub untied : (files : List (List StemParts)) (rule : Option NamedRule) (i : InstructionParts) (j : JournalParts)
    (fault : EngineFault) (r : Result (Vec ℕ Global) EngineFault)
    → IsErrAnd r (λ x. x ≡ fault) → IsLawful (history_of i j) → IsUntiedFault files rule (history_of i j) fault
    → AnswersTies files rule i j (listed r)
untied files rule i j fault (Ok text) h lawful wrong = absurd h
untied files rule i j fault (Err x) h lawful (inl memory) = inl (inl (h ∙ memory))
untied files rule i j fault (Err x) h lawful (inr (why, is, how)) = inr (lawful, (why, h ∙ is, how))

-- all files were read
pub all_read : (reads : ReadsApt) (apt journal : Option (List ℕ)) (stms : List (Option (List ℕ))) (i : InstructionParts)
    (j : JournalParts) (files : List (List StemParts)) (n : ℕ)
    → Says reads apt (Ok i) → Says journal_of journal (Ok j) → n ≤ 64 → n ≡ length stms → length files ≡ n
    → AreStemsOf n stms files
    → HaveRead reads apt journal stms i j files
all_read reads apt journal stms i j files n a b few number long made = record {
  apt_says = a;
  journal_says = b;
  few = omega (arith, few, number);
  number = long ∙ number;
  stms_say = λ k lt. made k (omega (arith, lt, number));
}

-- what is answered to what they have
pub tied_answer : (reads : ReadsApt) (rule : Option NamedRule) (apt journal : Option (List ℕ))
    (stms : List (Option (List ℕ))) (i : InstructionParts) (j : JournalParts) (files : List (List StemParts))
    (r : Result (List ℕ) EngineFault)
    → HaveRead reads apt journal stms i j files → AnswersTies files rule i j r
    → AnswersCheckWith reads rule apt journal stms r
tied_answer reads rule apt journal stms i j files (Ok text) have answers =
    record { instruction = i; read = j; files = files; have = have; answers = answers }
tied_answer reads rule apt journal stms i j files (Err fault) have answers =
    inr (have.few, inr (record { instruction = i; read = j; files = files; have = have; answers = answers }))

-- a file has a fault, or there are too many
pub input_answer : (reads : ReadsApt) (rule : Option NamedRule) (apt journal : Option (List ℕ))
    (stms : List (Option (List ℕ))) (fault : EngineFault) (r : Result (Vec ℕ Global) EngineFault)
    → IsErrAnd r (λ x. x ≡ fault) → IsTiedInputFault apt journal stms fault
    → AnswersCheckWith reads rule apt journal stms (listed r)
input_answer reads rule apt journal stms fault (Ok text) h wrong = absurd h
input_answer reads rule apt journal stms fault (Err x) h (inl (many, seats)) = inl (many, h ∙ seats)
input_answer reads rule apt journal stms fault (Err x) h (inr (few, input)) =
    inr (few, inl (subst (λ (f : EngineFault). IsInputFault apt journal stms f) (sym h) input))

unlawful_fault : (h : HistoryParts) (fault : EngineFault) → IsUnlawful h fault → IsNoWrite fault
unlawful_fault h fault (inl memory) = subst IsNoWrite (sym memory) tt
unlawful_fault h fault (inr (why, is, first)) = subst IsNoWrite (sym is) tt

ties_fault : (files : List (List StemParts)) (rule : Option NamedRule) (i : InstructionParts) (j : JournalParts)
    (fault : EngineFault) → AnswersTies files rule i j (Err fault) → IsNoWrite fault
ties_fault files rule i j fault (inl unlawful) = unlawful_fault (history_of i j) fault unlawful
ties_fault files rule i j fault (inr (lawful, (why, is, how))) = subst IsNoWrite (sym is) tt

input_fault : (apt journal : Option (List ℕ)) (stms : List (Option (List ℕ))) (fault : EngineFault)
    → IsInputFault apt journal stms fault → IsNoWrite fault
input_fault apt journal stms fault (inl a) = file_fault _ _ _ _ fault (λ why. tt) a
input_fault apt journal stms fault (inr (accepted, inl b)) = file_fault _ _ _ _ fault (λ why. tt) b
input_fault apt journal stms fault (inr (accepted, inr (both, list))) =
    file_fault _ _ _ _ fault (λ why. tt) list.is_fault

check_fault : (reads : ReadsApt) (rule : Option NamedRule) (apt journal : Option (List ℕ))
    (stms : List (Option (List ℕ))) (fault : EngineFault)
    → AnswersCheckWith reads rule apt journal stms (Err fault) → IsNoWrite fault
check_fault reads rule apt journal stms fault (inl (many, seats)) = subst IsNoWrite (sym seats) tt
check_fault reads rule apt journal stms fault (inr (few, inl input)) = input_fault apt journal stms fault input
check_fault reads rule apt journal stms fault (inr (few, inr of)) =
    ties_fault of.files rule of.instruction of.read fault of.answers

-- nothing is written if the answer is a fault
pub not_answered : (reads : ReadsApt) (rule : Option NamedRule) (apt journal : Option (List ℕ))
    (stms : List (Option (List ℕ))) (old : Option (List ℕ)) (fault : EngineFault) (r : Result (Unit {0}) EngineFault)
    → IsErrAnd r (λ x. x ≡ fault) → AnswersCheckWith reads rule apt journal stms (Err fault)
    → WritesText (AnswersCheckWith reads rule apt journal stms) old old r
not_answered reads rule apt journal stms old fault (Ok u) h a = absurd h
not_answered reads rule apt journal stms old fault (Err x) h a =
    subst (λ (f : EngineFault). WritesText (AnswersCheckWith reads rule apt journal stms) old old (Err f)) (sym h)
    (no_answer (AnswersCheckWith reads rule apt journal stms) (Appends old old) (AppendsSome old old) (Keeps old old)
    fault (check_fault reads rule apt journal stms fault a) a (Keeps-refl old))

pub ruleset tied = (input_answer, tied_answer)

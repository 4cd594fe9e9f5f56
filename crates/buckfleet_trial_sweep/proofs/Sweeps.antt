-- Tables over files.
use Rattle.buckfleet_trial_sweep.proofs.Words.{◌≡◌, ◌≢◌, ℕ, inr, List, length, map, length-map, sym, of_files, Option, Result, Ok, Err, refl, ap, subst, ◌∙◌, arith, InstructionParts, Combination, AnswersSweep, IsLineOver, IsSweepRun}
use Rattle.buckfleet_trial_sweep.proofs.Words.{IsTable}
use Rattle.buckfleet_trial_sweep.proofs.Words.{IsRunLine, AnswersTable}
use Rattle.std.specs.Result.{IsErrAnd}
use Rattle.std.specs.Io.KnownBytes.{Appends, Keeps}
use Rattle.std.proofs.KnownBytes.{Keeps-refl}
use Rattle.buck_apt.specs.Apt.{apt_of}
use Rattle.buck_book_postings.specs.Replies.{stems_at}
use Rattle.buck_fleet_round_robin.specs.Turn.{StemList}
use Rattle.buckfleet_engine_files.specs.declared.fault.EngineFault.{EngineFault}
use Rattle.buckfleet_engine_files.specs.declared.fault.EngineFault.TheVariants.{Full, Seats, Write}
use Rattle.buckfleet_engine_files.specs.Reading.{Says}
use Rattle.buckfleet_engine_input.specs.Harvest.{AreListsOf, AreNoSeats, IsFleetFault}
use Rattle.buckfleet_engine_files.specs.Written.{AppendsSome, WritesText}
use Rattle.buckfleet_engine_input.proofs.ListLemmas.{accepted, too_many, fleet_fault}
use Rattle.buckfleet_engine_files.proofs.Numbers.{says_with}
use Rattle.buckfleet_engine_files.proofs.Runs.{no_answer}
use Rattle.buckfleet_trial_sweep.proofs.Tables.{lines_mapped}

-- the line of a run over the lists that files have is a line over the files
over : (apt : Option (List ℕ)) (stms : List (Option (List ℕ))) (i : InstructionParts)
    (lists : List StemList) (c : Combination) (line : List ℕ)
    → Says apt_of apt (Ok i) → length lists ≡ length stms → AreListsOf (length stms) stms lists
    → IsRunLine i lists c line → IsLineOver apt stms c line
over apt stms i lists c line says long made run =
    let cut = run.has_cut.cut in
    record {
      history = run.history;
      harvest = record {
        instruction = says_with c.settings apt i run.history.instruction says run.instruction;
        lawful = run.has_cut.lawful;
        few = run.has_cut.few;
        firsts = run.has_cut.firsts;
        stems = λ k lt. record {
          stems = stems_at lists k;
          stm_says = made k lt;
          are_cut = cut.stems k (omega (arith, lt, long));
        };
        nobody_else = (rw long at cut.nobody_else);
      };
      in_turn = cut.in_turn;
      by_rule = run.has_cut.by_rule;
      is_line = run.is_line;
    }

-- nothing is written if there is no table
pub not_swept : {F : Type 0} (held : F → Option (List ℕ)) (files : List F) (cs : List Combination)
    (apt old : Option (List ℕ)) (fault : EngineFault) (r : Result (Unit {0}) EngineFault)
    → (AreNoSeats (length files) → fault ≡ Seats) → IsErrAnd r (λ x. x ≡ fault)
    → IsFleetFault apt (map held files) fault → (fault ≢ Full) → IsSweepRun cs apt (map held files) old old r
not_swept held files cs apt old fault (Ok u) seats h a full = absurd h
not_swept held files cs apt old fault (Err x) seats h a full =
    let stms = map held files in
    rw h (record {
      seats = λ none. ap (λ (f : EngineFault). Err f) (seats (of_files held files none));
      run = no_answer (AnswersSweep cs apt stms) (Appends old old) (AppendsSome old old) (Keeps old old) fault
          (fleet_fault apt stms fault a) (a, λ is. absurd (full is)) (Keeps-refl old);
    })

-- the table over lists that files have is a table over the files
pub swept : {F : Type 0} (held : F → Option (List ℕ)) (files : List F) (cs : List Combination) (apt : Option (List ℕ))
    (i : InstructionParts) (lists : List StemList) (old new : Option (List ℕ)) (r : Result (Unit {0}) EngineFault)
    → (AreNoSeats (length files) → ⊥) → Says apt_of apt (Ok i) → length lists ≡ length files
    → AreListsOf (length files) (map held files) lists → WritesText (AnswersTable i lists cs) old new r
    → IsSweepRun cs apt (map held files) old new r
swept held files cs apt i lists old new r seats says number made run =
    record { seats = λ none. absurd (seats (of_files held files none)); run = of r run } where
      stms : List (Option (List ℕ))
      stms = map held files

      long : length lists ≡ length stms
      long = number ∙ sym (length-map files held)

      all : AreListsOf (length stms) stms lists
      all = subst (λ (n : ℕ). AreListsOf n stms lists) (sym (length-map files held)) made

      table : (text : List ℕ) → AnswersTable i lists cs (Ok text) → IsTable cs apt stms text
      table text (lines, are_lines, is) = record {
        instruction = i;
        lines = lines;
        apt_says = says;
        are_lines = lines_mapped (IsRunLine i lists) (IsLineOver apt stms)
            (λ c line. over apt stms i lists c line says long all) cs lines are_lines;
        text_is = is;
      }

      of : (r : Result (Unit {0}) EngineFault) → WritesText (AnswersTable i lists cs) old new r
          → WritesText (AnswersSweep cs apt stms) old new r
      of (Ok u) x = (x.0, table x.0 x.1, x.2)
      of (Err Write) x = (x.0, table x.0 x.1, x.2)
      of (Err fault) x = (
        (
          inr (inr ((i, says), inr (accepted (length stms) stms lists all, x.0.0))),
          too_many {X = Unit {0}} stms lists (length stms) (Err fault) long refl all x.0.1,
        ),
        x.1,
      )

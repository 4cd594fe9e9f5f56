-- The line of a fault of a file isn't that of memory.
use Rattle.std.proofs.Common.{◌≡◌, ℕ, List, [], ◌∷◌, ◌++◌, codes, refl, sym, ap, ◌∙◌, arith}
use Rattle.buck_record.specs.writing.Line.{line_of}
use Rattle.buck_record.specs.writing.Written.{spelled}
use Rattle.buck_apt.specs.Faults.{apt_numbers}
use Rattle.buck_stem.specs.Faults.{stm_numbers}
use Rattle.buck_book_journal.specs.Faults.{journal_numbers, replay_numbers}
use Rattle.buck_fleet_close_fault.specs.Faults.{close_numbers}
use Rattle.buckfleet_engine_files.specs.declared.fault.EngineFault.TheVariants.{Read, Write, Apt, Stm, Journal, JournalOf, Replay, ReplayOf, Check, Seats, Full, Memory, Close}
use Rattle.buckfleet_engine_files.specs.Faults.{memory_line, numbered_line, status_or}
use Rattle.buckfleet_terms_files.specs.declared.fault.TermsFault.{TermsFault}
use Rattle.buckfleet_terms_files.specs.declared.fault.TermsFault.TheVariants.{Run, Targets, Own}
use Rattle.buckfleet_terms_files.specs.Faults.{own_numbers, targets_numbers, terms_line, terms_status}

abbrev first : List ℕ → ℕ
first [] = 0
first (b ∷ bs) = b

unlike : (kind file numbers bs : List ℕ) (b : ℕ) → kind ≡ b ∷ bs → (b ≡ 109 → ⊥) → status_or 1 numbers ≡ 1
    → numbered_line kind file numbers ≡ memory_line → ⊥
unlike kind file [] bs b is other status same = omega (arith, status)
unlike kind file (n ∷ ns) bs b is other status same =
    let behind = spelled file ++ line_of (codes " fault") (n ∷ ns) in
    other (ap (λ (l : List ℕ). first l) (sym (ap (λ (l : List ℕ). l ++ behind) is) ∙ same))

never_1 : (numbers : List ℕ) → status_or 4 numbers ≡ 1 → ⊥
never_1 [] status = omega (arith, status)
never_1 (n ∷ ns) status = omega (arith, status)

pub refused_unlike_memory : (fault : TermsFault) → terms_status fault ≡ 1 → terms_line fault ≡ memory_line → ⊥
refused_unlike_memory (Run (Read file)) status same = omega (arith, status)
refused_unlike_memory (Run Write) status same = omega (arith, status)
refused_unlike_memory (Run (Apt fault)) status same =
    unlike (codes "apt") [] (apt_numbers fault) (codes "pt") 97 refl (λ e. omega (arith, e)) status same
refused_unlike_memory (Run (Stm file fault)) status same =
    unlike (codes "stm") (file ∷ []) (stm_numbers fault) (codes "tm") 115 refl (λ e. omega (arith, e)) status same
refused_unlike_memory (Run (Journal fault)) status same =
    unlike (codes "journal") [] (journal_numbers fault) (codes "ournal") 106 refl (λ e. omega (arith, e)) status same
refused_unlike_memory (Run (JournalOf journal fault)) status same =
    unlike (codes "journal") (journal ∷ []) (journal_numbers fault) (codes "ournal") 106 refl (λ e. omega (arith, e))
    status same
refused_unlike_memory (Run (Replay fault)) status same = never_1 (replay_numbers fault) status
refused_unlike_memory (Run (ReplayOf journal fault)) status same = never_1 (replay_numbers fault) status
refused_unlike_memory (Run (Check fault)) status same = omega (arith, status)
refused_unlike_memory (Run Seats) status same = omega (arith, status)
refused_unlike_memory (Run Full) status same = omega (arith, status)
refused_unlike_memory (Run Memory) status same = omega (arith, status)
refused_unlike_memory (Run (Close fault)) status same = never_1 (close_numbers fault) status
refused_unlike_memory (Targets fault) status same =
    unlike (codes "targets") [] (targets_numbers fault) (codes "argets") 116 refl (λ e. omega (arith, e)) status same
refused_unlike_memory (Own fault) status same =
    unlike (codes "own") [] (own_numbers fault) (codes "wn") 111 refl (λ e. omega (arith, e)) status same

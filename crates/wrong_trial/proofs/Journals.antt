-- What appraisals and comparisons are of.
use Rattle.std.proofs.Common.{◌≡◌, ◌≢◌, ◌<◌, ℕ, List, [], ◌∷◌, ◌++◌, ap, append_assoc, append-nil, codes, inl, inr, Option, None, Some, Result, Ok, Err, length, cond, Bool, true, false, refl, sym, subst, arith, ◌==◌, ◌+◌, ◌∙◌}
use Rattle.std.specs.Result.{is_err}
use Rattle.buck_apt.specs.Apt.{apt_of}
use Rattle.buck_apt_instruction.specs.Instruction.{InstructionParts}
use Rattle.buck_apt_instruction.specs.Settings.{SettingsParts, with_settings}
use Rattle.buck_book_postings.specs.History.{IsLawful}
use Rattle.buck_book_journal.specs.Journal.{JournalParts, history_of}
use Rattle.buck_book_journal.specs.Reading.{journal_of}
use Rattle.buck_page_figures.specs.Journals.{postings_of}
use Rattle.buckfleet_engine_files.specs.declared.fault.EngineFault.{EngineFault}
use Rattle.buckfleet_engine_files.specs.declared.fault.EngineFault.TheVariants.{Journal, JournalOf, Replay}
use Rattle.buckfleet_engine_files.specs.Reading.{apt_with}
use Rattle.buckfleet_engine_files.specs.Several.{AreLawful, HaveJournals, IsSeveralFault}
use Rattle.buckfleet_engine_files.specs.Written.{WritesText}
use Rattle.buckfleet_terms_files.specs.declared.fault.TermsFault.{TermsFault}
use Rattle.buckfleet_terms_files.specs.declared.fault.TermsFault.TheVariants.{Run}
use Rattle.buckfleet_terms_files.specs.Telling.{WritesTerms}
use Rattle.buckfleet_tasks.specs.declared.journals.CompareTask.{CompareTask}
use Rattle.buckfleet_proceeds.specs.declared.appraisal.Appraisal.{Appraisal}
use Rattle.buckfleet_proceeds.specs.Appraisal.{IsAppraisal}
use Rattle.buckfleet_proceeds.specs.Text.{appraisal_text, assortment_lines, columns, harvester_lines, whole_line}
use Rattle.wrong_trial.specs.Texts.{StandsIn}
use Rattle.buckfleet_proceeds.specs.Serving.{AnswersAppraise, AnswersCompare, IsAppraiseFault}

-- an appraisal is of a lawful journal
of_one : (i : InstructionParts) (js : List JournalParts) (journal : List ℕ) → HaveJournals (Some journal ∷ []) js
    → AreLawful i js
    → ((j : JournalParts) → journal_of journal ≡ Ok j → IsLawful (history_of i j) → ⊥) → ⊥
of_one i [] journal have lawful un = omega (arith, have.one_each)
of_one i (j ∷ []) journal have lawful un = un j (have.each 0 j refl).1 (lawful 0 j (omega arith))
of_one i (j ∷ k ∷ more) journal have lawful un = omega (arith, have.one_each)

pub not_appraised : (settings : SettingsParts) (apt journal : List ℕ) (own : Option (List ℕ) × ℕ)
    (old new : Option (List ℕ)) (r : Result (Unit {0}) TermsFault)
    → WritesTerms (AnswersAppraise settings (Some apt) (Some journal ∷ []) own) old new r → is_err r ≡ false
    → ((i : InstructionParts) (j : JournalParts) → apt_with settings apt ≡ Ok i → journal_of journal ≡ Ok j
    → IsLawful (history_of i j) → ⊥) → ⊥
not_appraised settings apt journal own old new (Ok v) run well un =
    let a = run.1 in
    of_one a.instruction a.journals journal a.journals_say a.lawful
    (λ j is lawful. un a.instruction j a.apt_says.1 is lawful)
not_appraised settings apt journal own old new (Err e) run well un = absurd (cc well)

-- no fault of a file is that of a journal that isn't lawful
not_journal : (b : Bool) (n : ℕ) (why : _) (w : _) → Replay why ≡ cond b (Journal w) (JournalOf n w) → ⊥
not_journal true n why w is = absurd (cc is)
not_journal false n why w is = absurd (cc is)

not_of_files : (apt : Option (List ℕ)) (files : List (Option (List ℕ))) (why : _)
    → IsSeveralFault apt files (Replay why) → ⊥
not_of_files apt files why (inl (inl read)) = absurd (cc read)
not_of_files apt files why (inl (inr (inl memory))) = absurd (cc memory)
not_of_files apt files why (inl (inr (inr (w, named, says)))) = absurd (cc named)
not_of_files apt files why (inr (ok, inl j)) = elim j.is_fault [
  | inl read ↦ absurd (cc read)
  | inr (inl memory) ↦ absurd (cc memory)
  | inr (inr (w, named, says)) ↦ not_journal (length files == 1) (j.place + 1) why w named
]
not_of_files apt files why (inr (ok, inr full)) = absurd (cc full.full)

-- a journal isn't reported if the owner's instruction is refused
pub owner_first : (settings : SettingsParts) (apt : Option (List ℕ)) (files : List (Option (List ℕ))) (own : List ℕ)
    (number : ℕ) (old new : Option (List ℕ)) (r : Result (Unit {0}) TermsFault) (why : _)
    → WritesTerms (AnswersAppraise settings apt files (Some own, number)) old new r → r ≡ Err (Run (Replay why))
    → ((i : InstructionParts) → apt_of own ≢ Ok i) → ⊥
owner_first settings apt files own number old new r why run is refused =
    told (subst (λ (x : Result (Unit {0}) TermsFault). WritesTerms (AnswersAppraise settings apt files (Some own, number))
    old new x) is run).0 where
      told : IsAppraiseFault settings apt files (Some own, number) (Run (Replay why)) → ⊥
      told (inl (e, named, several)) =
          let same : Replay why ≡ e = cc named in
          not_of_files apt files why (subst (λ (x : EngineFault). IsSeveralFault apt files x) (sym same) several)
      told (inr (inl have)) = elim have.holds [
        | inl (inl read) ↦ absurd (cc read)
        | inl (inr memory) ↦ absurd (cc memory)
        | inr (inl (w, named, says)) ↦ absurd (cc named)
        | inr (inr (i, w, named, says, shape)) ↦ absurd (cc named)
      ]
      told (inr (inr have)) = refused have.holds.0.0 have.holds.0.1.1

-- two journals that are compared
pub compared_two : (task : CompareTask) (apt first second : List ℕ) (old new : Option (List ℕ))
    (r : Result (Unit {0}) EngineFault)
    → WritesText (AnswersCompare task (Some apt) (Some first ∷ Some second ∷ [])) old new r → is_err r ≡ false
    → ((i : InstructionParts) (one other : JournalParts) → apt_of apt ≡ Ok i → journal_of first ≡ Ok one
    → journal_of second ≡ Ok other → length (postings_of (one ∷ other ∷ [])) < 1000001
    → IsLawful (history_of (with_settings task.second i) other) → ⊥) → ⊥
compared_two task apt first second old new (Ok v) run well never =
    let (i, one, other, says, lawful) = run.1 in
    never i one other says.apt_says.1 (says.journals_say.each 0 one refl).1 (says.journals_say.each 1 other refl).1
    (omega (arith, says.few)) lawful.1
compared_two task apt first second old new (Err e) run well never = absurd (cc well)

-- no text of an appraisal is one without its line of all
pub without_total : (settings : SettingsParts) (apt : Option (List ℕ)) (files : List (Option (List ℕ))) (own : List ℕ)
    (number : ℕ) (old text wrong : List ℕ) (r : Result (Unit {0}) TermsFault) (u : Unit {0})
    → WritesTerms (AnswersAppraise settings apt files (Some own, number)) (Some old) (Some text) r → old ≡ [] → r ≡ Ok u
    → ((owner : InstructionParts) (js : List JournalParts) (p : Appraisal) → apt_of own ≡ Ok owner
    → HaveJournals files js → IsAppraisal owner (postings_of js) p
    → StandsIn (whole_line (codes "total") None p.total) wrong → ⊥)
    → text ≡ wrong → ⊥
unfolding appraisal_text
without_total settings apt files own number old text wrong (Ok v) u run none well other same =
    let a = run.1 in
    let p = a.appraisal in
    let line = whole_line (codes "total") None p.total in
    let each = assortment_lines 0 a.instruction.assortments p.assortments.items p.best_assortments.items in
    let of = harvester_lines p.harvesters in
    let is : text ≡ columns ++ (of ++ (each ++ line)) =
    run.2 ∙ ap (λ (o : List ℕ). o ++ run.0) none ∙ a.text_is in
    let whole : text ≡ (columns ++ (of ++ each)) ++ (line ++ []) =
    is ∙ sym (ap (λ (x : List ℕ). (columns ++ (of ++ each)) ++ x) (append-nil line)
    ∙ append_assoc columns (of ++ each) line ∙ ap (λ (x : List ℕ). columns ++ x) (append_assoc of each line)) in
    other a.owner a.journals p a.own_says.1 a.journals_say a.is_appraisal
    (subst (λ (x : List ℕ). StandsIn line x) same (columns ++ (of ++ each), [], whole))
without_total settings apt files own number old text wrong (Err e) u run none well other same = absurd (cc well)

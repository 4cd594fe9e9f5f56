-- A run over an instruction and two journals whose bytes are known.
use Rattle.std.proofs.Common.{◌≡◌, ℕ, ◌+◌, List, [], ◌∷◌, length, map, slice_index_or, Option, Some, Result, Ok, Err, refl, sym, ap, subst, ◌∙◌, arith}
use Rattle.buck_apt_instruction.specs.Instruction.{InstructionParts}
use Rattle.buck_book_postings.specs.History.{IsLawful}
use Rattle.buck_book_journal.specs.Journal.{JournalParts, history_of}
use Rattle.buck_book_journal.specs.Reading.{journal_of}
use Rattle.buckfleet_engine_files.specs.declared.fault.EngineFault.{EngineFault}
use Rattle.buckfleet_tasks.specs.declared.journals.Shown.{Shown}
use Rattle.buckfleet_tasks.specs.declared.journals.Shown.TheVariants.{Page}
use Rattle.buckfleet_engine_files.specs.Opening.{AnswersInputs, OpensEach}
use Rattle.buckfleet_engine_files.specs.Reading.{ReadsApt}
use Rattle.buckfleet_engine.specs.run.Serving.{status_after}
use Rattle.buckfleet_engine_files.specs.Several.{AreLawful, HaveJournals, HaveSeveral}
use Rattle.buckfleet_engine_page.specs.Several.{ShowsPages}
use Rattle.buckfleet_engine_page.specs.Showing.{ShowsOpened}
use Rattle.buckfleet_engine_files.proofs.Statuses.{never_0}

-- an instruction and the second of two journals, which isn't lawful for it
abbrev pub IsUnlawful : ReadsApt → List ℕ → List ℕ → Type 0
IsUnlawful reads apt second =
    (i : InstructionParts) (j : JournalParts) → reads apt ≡ Ok i → journal_of second ≡ Ok j → IsLawful (history_of i j) → ⊥

second_unlawful : (reads : ReadsApt) (apt first second : List ℕ) (i : InstructionParts) (js : List JournalParts)
    → IsUnlawful reads apt second → reads apt ≡ Ok i → HaveJournals (Some first ∷ Some second ∷ []) js → AreLawful i js → ⊥
second_unlawful reads apt first second i [] never says have lawful = omega (arith, have.one_each)
second_unlawful reads apt first second i (j ∷ []) never says have lawful = omega (arith, have.one_each)
second_unlawful reads apt first second i (j ∷ k ∷ js) never says have lawful =
    never i k says (have.each 1 k refl).1 (lawful 1 k (omega arith))

unshown : (reads : ReadsApt) (apt first second : List ℕ) (old new : Option (List ℕ))
    (outcome : Result (Unit {0}) EngineFault)
    → IsUnlawful reads apt second → ShowsPages reads (Some apt) (Some first ∷ Some second ∷ []) old new outcome
    → status_after outcome ≡ 0 → ⊥
unshown reads apt first second old new (Ok u) never shows well =
    let have : HaveSeveral reads AreLawful (Some apt) (Some first ∷ Some second ∷ []) = shows.0 in
    second_unlawful reads apt first second have.instruction have.read never have.apt_says.1 have.journals_say have.holds
unshown reads apt first second old new (Err fault) never shows well = never_0 fault well

-- an opener that gives one file after the other
module _ {O F : Type 0} (opens : O → List ℕ → Option F → O → Type 0) (at : O → ℕ) (has : O → List (List ℕ)) (text : F → List ℕ)
    (gives : (x y : O) (name : List ℕ) (file : F) → opens x name (Some file) y
    → (text file ≡ slice_index_or (has x) (at x) []) × (at y ≡ at x + 1) × (has y ≡ has x)) where
  both_texts : (x y : O) (a b : List ℕ) (files : List F) (apt first second : List ℕ) → at x ≡ 1
      → has x ≡ apt ∷ first ∷ second ∷ []
      → OpensEach opens x y (a ∷ b ∷ []) files → map text files ≡ first ∷ second ∷ []
  both_texts x y a b [] apt first second one is_has is = absurd is
  both_texts x y a b (f ∷ []) apt first second one is_has is = absurd is.2
  both_texts x y a b (f ∷ g ∷ h ∷ more) apt first second one is_has is = absurd is.2.2
  both_texts x y a b (f ∷ g ∷ []) apt first second one is_has is =
      let of_first = gives x is.0 a f is.1 in
      let of_second = gives is.0 is.2.0 b g is.2.1 in
      let two : at is.0 ≡ 2 = omega (arith, of_first.1, one) in
      let text_f : text f ≡ first =
      of_first.0 ∙ ap (λ n. slice_index_or (has x) n []) one ∙ ap (λ ts. slice_index_or ts 1 []) is_has in
      let text_g : text g ≡ second =
      of_second.0 ∙ ap (λ n. slice_index_or (has is.0) n []) two ∙ ap (λ ts. slice_index_or ts 2 []) (of_first.2 ∙ is_has) in
      rw (text_f, text_g) refl

  unlawful_unshown : (reads : ReadsApt) (start end : O) (name a b : List ℕ) (files : F × List F)
      (apt first second : List ℕ) (old new : Option (List ℕ)) (outcome : Result (Unit {0}) EngineFault)
      → at start ≡ 0 → has start ≡ apt ∷ first ∷ second ∷ [] → IsUnlawful reads apt second
      → AnswersInputs opens start end name (a ∷ b ∷ []) (Ok files)
      → ShowsPages reads (Some (text files.0)) (map (λ f. Some (text f)) files.1) old new outcome
      → status_after outcome ≡ 0 → ⊥
  unlawful_unshown reads start end name a b files apt first second old new outcome none is_has never is shows well =
      let of_apt = gives start is.between name files.0 is.opened in
      let one : at is.between ≡ 1 = omega (arith, of_apt.1, none) in
      let text_apt : text files.0 ≡ apt =
      of_apt.0 ∙ ap (λ n. slice_index_or (has start) n []) none ∙ ap (λ ts. slice_index_or ts 0 []) is_has in
      let texts : map text files.1 ≡ first ∷ second ∷ [] =
      both_texts is.between end a b files.1 apt first second one (of_apt.2 ∙ is_has) is.others in
      let known : map (λ f. Some (text f)) files.1 ≡ Some first ∷ Some second ∷ [] =
      somes files.1 ∙ ap (map (λ (t : List ℕ). Some t)) texts in
      let told : ShowsPages reads (Some apt) (Some first ∷ Some second ∷ []) old new outcome =
      subst (λ fs. ShowsPages reads (Some apt) fs old new outcome) known
      (subst (λ t. ShowsPages reads (Some t) (map (λ f. Some (text f)) files.1) old new outcome) text_apt shows) in
      unshown reads apt first second old new outcome never told well
    where
      somes : (fs : List F) → map (λ f. Some (text f)) fs ≡ map (λ (t : List ℕ). Some t) (map text fs)
      somes [] = refl
      somes (f ∷ fs) = ap (λ ts. Some (text f) ∷ ts) (somes fs)

  pub second_unlawful_unshown : (reads : ReadsApt) (shown : Shown) (start end : O) (name : List ℕ) (names : List (List ℕ))
      (opened : Result (F × List F) EngineFault) (apt first second : List ℕ) (old new : Option (List ℕ))
      (outcome : Result (Unit {0}) EngineFault)
      → shown ≡ Page → length names ≡ 2
      → at start ≡ 0 → has start ≡ apt ∷ first ∷ second ∷ [] → IsUnlawful reads apt second
      → AnswersInputs opens start end name names opened
      → ShowsOpened reads shown (λ f. Some (text f)) opened old new outcome
      → status_after outcome ≡ 0 → ⊥
  second_unlawful_unshown reads shown start end name [] opened apt first second old new outcome page number none has_is
      never is shows well =
      omega (arith, number)
  second_unlawful_unshown reads shown start end name (a ∷ []) opened apt first second old new outcome page number none has_is
      never is shows well =
      omega (arith, number)
  second_unlawful_unshown reads shown start end name (a ∷ b ∷ c ∷ names) opened apt first second old new outcome page number
      none has_is never is shows well =
      omega (arith, number)
  second_unlawful_unshown reads shown start end name (a ∷ b ∷ []) (Ok files) apt first second old new outcome page number none
      has_is never is shows well =
      unlawful_unshown reads start end name a b files apt first second old new outcome none has_is never is
      (subst (λ s. ShowsOpened reads s (λ f. Some (text f)) (Ok files) old new outcome) page shows) well
  second_unlawful_unshown reads shown start end name (a ∷ b ∷ []) (Err fault) apt first second old new outcome page number
      none has_is never is shows well =
      never_0 fault (ap status_after (sym shows.0) ∙ well)

-- Runs that show two journals.
use Rattle.std.proofs.Common.{◌≡◌, ◌≢◌, ℕ, zero, suc, ◌+◌, ◌<◌, min, List, [], ◌∷◌, length, take, slice_index_or, Option, Some, None, Result, Ok, Err, refl, sym, ap, subst, ◌∙◌, inl, inr, arith}
use Rattle.std.specs.Prelude.{◌⊎◌}
use Rattle.std.specs.Fmt.{digits}
use Rattle.std.proofs.lemmas.List.{length-take}
use Rattle.std.proofs.lemmas.Option.{none-some}
use Rattle.buckfleet_engine_files.specs.declared.fault.EngineFault.{EngineFault}
use Rattle.buckfleet_engine_files.specs.declared.fault.EngineFault.TheVariants.{Read, Write, Apt, Stm, Journal, JournalOf, Replay, ReplayOf, Check, Seats, Full, Memory, Close}
use Rattle.buckfleet_tasks.specs.declared.journals.Shown.{Shown}
use Rattle.buckfleet_tasks.specs.declared.journals.Shown.TheVariants.{Table}
use Rattle.buckfleet_engine_files.specs.Faults.{fault_line}
use Rattle.buckfleet_engine_files.specs.Opening.{AnswersAll, AnswersInputs, OpensEach, OpensUpTo}
use Rattle.buckfleet_engine_files.specs.Reading.{ReadsApt}
use Rattle.buckfleet_engine_files.specs.Written.{AppendsFirst}
use Rattle.buckfleet_engine.specs.run.Serving.{TellsOutcome, status_after}
use Rattle.buckfleet_engine_page.specs.Several.{ShowsTables}
use Rattle.buckfleet_engine_page.specs.Showing.{ShowsOpened}
use Rattle.wrong_engine.proofs.Unlike.{taken_whole}

-- the line of file 1
abbrev pub line_of_file_1 : List ℕ
line_of_file_1 = 114 ∷ 101 ∷ 97 ∷ 100 ∷ 32 ∷ 102 ∷ 97 ∷ 117 ∷ 108 ∷ 116 ∷ 32 ∷ 49 ∷ 10 ∷ []

long : length (fault_line (Read 2)) ≡ length line_of_file_1
unfolding digits
long = refl

unlike : fault_line (Read 2) ≡ line_of_file_1 → ⊥
unfolding digits
unlike e = let at : 50 ≡ 49 = ap (λ xs. slice_index_or xs 11 0) e in omega (arith, at)

-- first bytes of the line of file 2 aren't that line, nor those of memory's
not_of_file_1 : (items : List ℕ) → AppendsFirst (Some []) (Some items) (fault_line (Read 2)) → items ≡ line_of_file_1 → ⊥
not_of_file_1 items (k, le, is) e = unlike (taken_whole k (fault_line (Read 2)) line_of_file_1 long (sym is ∙ e))

not_of_memory : (items : List ℕ) → AppendsFirst (Some []) (Some items) (fault_line Memory) → items ≡ line_of_file_1 → ⊥
not_of_memory items (k, le, is) e =
    let same : length (take k (fault_line Memory)) ≡ 13 = ap length (sym is ∙ e) in
    let short : length (fault_line Memory) ≡ 7 = refl in
    omega (arith, same, length-take k (fault_line Memory), short)

-- which fault says that not all are opened
missing_or_memory : {O F : Type 0} (opens : O → List ℕ → Option F → O → Type 0) (old new : O) (names : List (List ℕ))
    (fault : EngineFault)
    → AnswersAll opens old new names (Err fault)
    → ((place : ℕ) × (fault ≡ Read (min (place + 1) 4294967295)) × OpensUpTo opens old new names place) ⊎ (fault ≡ Memory)
missing_or_memory opens old new names (Read file) is = inl (is.0, ap Read is.1, is.2)
missing_or_memory opens old new names Memory is = inr refl
missing_or_memory opens old new names Write is = absurd is
missing_or_memory opens old new names (Apt f) is = absurd is
missing_or_memory opens old new names (Stm n f) is = absurd is
missing_or_memory opens old new names (Journal f) is = absurd is
missing_or_memory opens old new names (JournalOf n f) is = absurd is
missing_or_memory opens old new names (Replay f) is = absurd is
missing_or_memory opens old new names (ReplayOf n f) is = absurd is
missing_or_memory opens old new names (Check f) is = absurd is
missing_or_memory opens old new names Seats is = absurd is
missing_or_memory opens old new names Full is = absurd is
missing_or_memory opens old new names (Close f) is = absurd is

-- an opener that opens so many files as are left to it
module _ {O F : Type 0} (opens : O → List ℕ → Option F → O → Type 0) (left : O → ℕ)
    (stops : (x y : O) (name : List ℕ) (file : Option F) → opens x name file y → left x ≡ 0 → file ≡ None)
    (goes : (x y : O) (name : List ℕ) (file : Option F) → opens x name file y → 0 < left x
    → (file ≢ None) × (left y + 1 ≡ left x)) where
  both_never : (x y : O) (a b : List ℕ) (files : List F) → left x ≡ 1 → OpensEach opens x y (a ∷ b ∷ []) files → ⊥
  both_never x y a b [] one is = absurd is
  both_never x y a b (f ∷ []) one is = absurd is.2
  both_never x y a b (f ∷ g ∷ more) one is =
      let less = goes x is.0 a (Some f) is.1 (omega (arith, one)) in
      none-some g (sym (stops is.0 is.2.0 b (Some g) is.2.1 (omega (arith, less.1, one))))

  unmoved : (x y : O) (files : List F) → OpensEach opens x y [] files → y ≡ x
  unmoved x y [] is = is
  unmoved x y (f ∷ files) is = absurd is

  second_place : (x y : O) (a b : List ℕ) (place : ℕ) → left x ≡ 1 → OpensUpTo opens x y (a ∷ b ∷ []) place → place ≡ 1
  second_place x y a b zero one is =
      let same : left is.between ≡ 1 = ap left (unmoved x is.between is.files is.before) ∙ one in
      absurd ((goes is.between y a None is.missing (omega (arith, same))).0 refl)
  second_place x y a b (suc zero) one is = refl
  second_place x y a b (suc (suc place)) one is = absurd (omega (arith, is.exists))

  -- of three files the third is missing
  third_missing : (start end : O) (apt a b : List ℕ) (opened : Result (F × List F) EngineFault) → left start ≡ 2
      → AnswersInputs opens start end apt (a ∷ b ∷ []) opened → (opened ≡ Err (Read 2)) ⊎ (opened ≡ Err Memory)
  third_missing start end apt a b (Ok files) two is =
      let less = goes start is.between apt (Some files.0) is.opened (omega (arith, two)) in
      absurd (both_never is.between end a b files.1 (omega (arith, less.1, two)) is.others)
  third_missing start end apt a b (Err fault) two (inl is) =
      absurd ((goes start end apt None is.1 (omega (arith, two))).0 refl)
  third_missing start end apt a b (Err fault) two (inr is) =
      let less = goes start is.1.between apt (Some is.0) is.1.opened (omega (arith, two)) in
      let one : left is.1.between ≡ 1 = omega (arith, less.1, two) in
      elim (missing_or_memory opens is.1.between end (a ∷ b ∷ []) fault is.1.others) [
        | inl m ↦
            let place : m.0 ≡ 1 = second_place is.1.between end a b m.0 one m.2 in
            inl (ap (λ f. Err f) (m.1 ∙ ap (λ p. Read (min (p + 1) 4294967295)) place))
        | inr m ↦ inr (ap (λ f. Err f) m)
      ]

  told_so : (held : F → Option (List ℕ)) (reads : ReadsApt) (shown : Shown) (opened : Result (F × List F) EngineFault)
      (old new : Option (List ℕ)) (outcome : Result (Unit {0}) EngineFault) (items : List ℕ)
      → (opened ≡ Err (Read 2)) ⊎ (opened ≡ Err Memory) → ShowsOpened reads shown held opened old new outcome
      → TellsOutcome (Some []) (Some items) outcome → items ≡ line_of_file_1 → ⊥
  told_so held reads shown opened old new outcome items (inl is) shows told e =
      let runs : ShowsOpened reads shown held (Err (Read 2)) old new outcome =
      subst (λ o. ShowsOpened reads shown held o old new outcome) is shows in
      not_of_file_1 items (subst (λ o. TellsOutcome (Some []) (Some items) o) runs.0 told) e
  told_so held reads shown opened old new outcome items (inr is) shows told e =
      let runs : ShowsOpened reads shown held (Err Memory) old new outcome =
      subst (λ o. ShowsOpened reads shown held o old new outcome) is shows in
      not_of_memory items (subst (λ o. TellsOutcome (Some []) (Some items) o) runs.0 told) e

  pub not_of_the_first : (held : F → Option (List ℕ)) (reads : ReadsApt) (shown : Shown) (start end : O) (apt : List ℕ)
      (names : List (List ℕ)) (opened : Result (F × List F) EngineFault) (old new : Option (List ℕ))
      (outcome : Result (Unit {0}) EngineFault) (items : List ℕ)
      → left start ≡ 2 → length names ≡ 2 → AnswersInputs opens start end apt names opened
      → ShowsOpened reads shown held opened old new outcome
      → TellsOutcome (Some []) (Some items) outcome → items ≡ line_of_file_1 → ⊥
  not_of_the_first held reads shown start end apt [] opened old new outcome items two number is shows told e =
      omega (arith, number)
  not_of_the_first held reads shown start end apt (a ∷ []) opened old new outcome items two number is shows told e =
      omega (arith, number)
  not_of_the_first held reads shown start end apt (a ∷ b ∷ []) opened old new outcome items two number is shows told e =
      told_so held reads shown opened old new outcome items (third_missing start end apt a b opened two is) shows told e
  not_of_the_first held reads shown start end apt (a ∷ b ∷ c ∷ names) opened old new outcome items two number is shows told
      e =
      omega (arith, number)

-- nothing of a table was written if the exit status is 4
unlawful_unwritten : (reads : ReadsApt) (apt : Option (List ℕ)) (files : List (Option (List ℕ))) (new : List ℕ)
    (outcome : Result (Unit {0}) EngineFault)
    → ShowsTables reads apt files (Some []) (Some new) outcome → status_after outcome ≡ 4 → new ≡ []
unlawful_unwritten reads apt files new (Ok u) is status = absurd (omega (arith, status))
unlawful_unwritten reads apt files new (Err Write) is status = absurd (omega (arith, status))
unlawful_unwritten reads apt files new (Err (Replay why)) is status = is.2
unlawful_unwritten reads apt files new (Err (ReplayOf journal why)) is status = is.2
unlawful_unwritten reads apt files new (Err (Read file)) is status = is.1
unlawful_unwritten reads apt files new (Err (Apt f)) is status = is.1
unlawful_unwritten reads apt files new (Err (Stm n f)) is status = is.1
unlawful_unwritten reads apt files new (Err (Journal f)) is status = is.1
unlawful_unwritten reads apt files new (Err (JournalOf n f)) is status = is.1
unlawful_unwritten reads apt files new (Err (Check f)) is status = is.1
unlawful_unwritten reads apt files new (Err Seats) is status = is.1
unlawful_unwritten reads apt files new (Err Full) is status = is.1
unlawful_unwritten reads apt files new (Err Memory) is status = is.1
unlawful_unwritten reads apt files new (Err (Close f)) is status = is.1

pub refused_unwritten : {F : Type 0} (reads : ReadsApt) (shown : Shown) (held : F → Option (List ℕ))
    (opened : Result (F × List F) EngineFault) (new : List ℕ) (outcome : Result (Unit {0}) EngineFault) (table : _)
    → shown ≡ Table table
    → ShowsOpened reads shown held opened (Some []) (Some new) outcome → status_after outcome ≡ 4 → new ≡ []
refused_unwritten reads shown held (Ok files) new outcome table is shows status =
    unlawful_unwritten reads _ _ new outcome
    (subst (λ s. ShowsOpened reads s held (Ok files) (Some []) (Some new) outcome) is shows) status
refused_unwritten reads shown held (Err fault) new outcome table is shows status = shows.1

-- Several journals as they are shown.
use Rattle.std.proofs.Common.{◌≡◌, ℕ, ◌+◌, ◌≤◌, inl, inr, List, length, Option, Some, None, Result, Ok, Err, refl, sym, subst, ◌∙◌, arith}
use Rattle.std.specs.Prelude.{slice_get, slice_index_or}
use Rattle.std.specs.Result.{IsErrAnd}
use Rattle.std.specs.Io.KnownBytes.{Keeps}
use Rattle.std.proofs.KnownBytes.{Keeps-refl}
use Rattle.std.proofs.lemmas.Bool.{cases_eq, cond-false, cond-true, eq-eqb, ne_eqb}
use Rattle.std.proofs.lemmas.Option.{slice_get_within}
use Rattle.buck_apt_instruction.specs.Instruction.{InstructionParts}
use Rattle.buck_book_postings.specs.declared.posting.TheConstants.{MOST_POSTINGS}
use Rattle.buck_book_journal.specs.Journal.{JournalParts}
use Rattle.buck_book_journal.specs.Reading.{journal_of}
use Rattle.buck_book_journal.specs.declared.replay_fault.ReplayFault.{ReplayFault}
use Rattle.buck_book_journal.specs.Several.{postings_of}
use Rattle.buckfleet_engine_files.specs.declared.fault.EngineFault.{EngineFault}
use Rattle.buckfleet_engine_files.specs.declared.fault.EngineFault.TheVariants.{Memory, Journal, JournalOf, Replay, ReplayOf}
use Rattle.buckfleet_tasks.specs.declared.journals.Shown.{Shown}
use Rattle.buckfleet_tasks.specs.declared.journals.Shown.TheVariants.{Page, Table}
use Rattle.buckfleet_engine_files.specs.Reading.{IsFileFault, ReadsApt, Says}
use Rattle.buckfleet_engine_files.specs.Several.{AreLawful, HaveJournals, IsFirstUnlawful, IsJournalsFault, IsSeveralFault, journal_fault, replay_fault}
use Rattle.buckfleet_engine_page.specs.Several.{HavePage, ShowsSeveral}
use Rattle.buckfleet_engine_page.specs.Showing.{Shows}
use Rattle.buckfleet_engine_page.specs.Viewing.{AppendsPage, AppendsTable}
use Rattle.buckfleet_engine_page.specs.inner.Several.{ShowsAll, ShowsUnlawful}
use Rattle.buckfleet_engine_page.specs.inner.View.{WritesAs}
use Rattle.buckfleet_engine_files.proofs.SeveralLemmas.{accepted}

-- a page and a table of lawful journals
pub pages_shown : (Shown Left : Type 0) (i : InstructionParts) (js : List JournalParts) (old new : Option (List ℕ))
    (r : Result (Unit {0}) EngineFault)
    → AreLawful i js → WritesAs Shown old new r → ShowsAll HavePage Shown Left i js old new r
pages_shown Shown Left i js old new (Ok u) lawful shown = (lawful, shown)
pages_shown Shown Left i js old new (Err fault) lawful fails = inl (fails, λ w. inl lawful)

pub tables_shown : (Shown Left : Type 0) (i : InstructionParts) (js : List JournalParts) (old new : Option (List ℕ))
    (r : Result (Unit {0}) EngineFault)
    → AreLawful i js → WritesAs Shown old new r → ShowsAll AreLawful Shown Left i js old new r
tables_shown Shown Left i js old new (Ok u) lawful shown = (lawful, shown)
tables_shown Shown Left i js old new (Err fault) lawful fails = inl (fails, λ w. lawful)

-- what is left of the first that isn't
pub unlawful_shown : (Shown Left : Type 0) (i : InstructionParts) (js : List JournalParts) (old new : Option (List ℕ))
    (place : ℕ) (why : ReplayFault) (fault : EngineFault)
    → IsFirstUnlawful i js place why → ShowsUnlawful Left (replay_fault (length js) place why) old new fault
    → ShowsAll HavePage Shown Left i js old new (Err fault)
unlawful_shown Shown Left i js old new place why fault first (inl (is, left)) = inr (place, why, is, first, left)
unlawful_shown Shown Left i js old new place why fault first (inr fails) =
    inl (fails, λ w. inr (place, why, first))

pub nothing_left : (Shown : Type 0) (i : InstructionParts) (js : List JournalParts) (old : Option (List ℕ))
    (place : ℕ) (why : ReplayFault) (fault : EngineFault)
    → IsFirstUnlawful i js place why → fault ≡ replay_fault (length js) place why
    → ShowsAll AreLawful Shown (Keeps old old) i js old old (Err fault)
nothing_left Shown i js old place why fault first is = inr (place, why, is, first, Keeps-refl old)

-- memory ran out before there was a text
pub no_memory : (HasText : InstructionParts → List JournalParts → Type 0) (Shown Left : Type 0) (i : InstructionParts)
    (js : List JournalParts) (old : Option (List ℕ)) → ShowsAll HasText Shown Left i js old old (Err Memory)
no_memory HasText Shown Left i js old = inl (inl (refl, Keeps-refl old), λ w. absurd (cc w))

-- nothing is written if a file has a fault
kept : (reads : ReadsApt) (HasText : InstructionParts → List JournalParts → Type 0) (Shown Left : Type 0)
    (apt : Option (List ℕ)) (files : List (Option (List ℕ))) (old : Option (List ℕ)) (fault : EngineFault)
    → IsSeveralFault apt files fault
    → ShowsSeveral reads HasText Shown Left apt files old old (Err fault)
kept reads HasText Shown Left apt files old fault (inl (inl is)) =
    subst (λ (f : EngineFault). ShowsSeveral reads HasText Shown Left apt files old old (Err f)) (sym is)
    (inl (inl refl), Keeps-refl old)
kept reads HasText Shown Left apt files old fault (inl (inr (inl is))) =
    subst (λ (f : EngineFault). ShowsSeveral reads HasText Shown Left apt files old old (Err f)) (sym is)
    (inl (inr (inl refl)), Keeps-refl old)
kept reads HasText Shown Left apt files old fault (inl (inr (inr (why, is, says)))) =
    subst (λ (f : EngineFault). ShowsSeveral reads HasText Shown Left apt files old old (Err f)) (sym is)
    (inl (inr (inr (why, refl, says))), Keeps-refl old)
kept reads HasText Shown Left apt files old fault (inr (ok, inr full)) =
    subst (λ (f : EngineFault). ShowsSeveral reads HasText Shown Left apt files old old (Err f)) (sym full.full) (
      inr (ok, inr (record { full = refl; journals = full.journals; have = full.have; many = full.many })),
      Keeps-refl old,
    )
kept reads HasText Shown Left apt files old fault (inr (ok, inl one)) = kept_one one.is_fault
  where
    Goal : EngineFault → Type 0
    Goal f = ShowsSeveral reads HasText Shown Left apt files old old (Err f)

    same : (f : EngineFault)
        → IsFileFault (one.place + 1) (journal_fault (length files) one.place) journal_of
        (slice_index_or files one.place None) f → IsJournalsFault files f
    same f is = record { place = one.place; exists = one.exists; accepted = one.accepted; is_fault = is }

    kept_one : IsFileFault (one.place + 1) (journal_fault (length files) one.place) journal_of
        (slice_index_or files one.place None) fault → Goal fault
    kept_one (inl is) =
        subst Goal (sym is) (inr (ok, inl (same _ (inl refl))), Keeps-refl old)
    kept_one (inr (inl is)) =
        subst Goal (sym is) (inr (ok, inl (same _ (inr (inl refl)))), Keeps-refl old)
    kept_one (inr (inr (why, is, says))) = elim (cases_eq (length files) 1) [
      | inl e ↦ (
          let named : journal_fault (length files) one.place why ≡ Journal why =
          cond-true _ _ _ (eq-eqb (length files) 1 e) in
          subst Goal (sym (is ∙ named)) (inr (ok, inl (same _ (inr (inr (why, sym named, says))))), Keeps-refl old))
      | inr ne ↦ (
          let named : journal_fault (length files) one.place why ≡ JournalOf (one.place + 1) why =
          cond-false _ _ _ (ne_eqb (length files) 1 ne) in
          subst Goal (sym (is ∙ named)) (inr (ok, inl (same _ (inr (inr (why, sym named, says))))), Keeps-refl old))
    ]

nothing_shown : (reads : ReadsApt) (HasText : InstructionParts → List JournalParts → Type 0) (Shown Left : Type 0)
    (apt : Option (List ℕ)) (files : List (Option (List ℕ))) (old : Option (List ℕ)) (fault : EngineFault)
    (r : Result (Unit {0}) EngineFault)
    → IsErrAnd r (λ x. x ≡ fault) → IsSeveralFault apt files fault
    → ShowsSeveral reads HasText Shown Left apt files old old r
nothing_shown reads HasText Shown Left apt files old fault (Ok u) h a = absurd h
nothing_shown reads HasText Shown Left apt files old fault (Err x) h a =
    subst (λ (f : EngineFault). ShowsSeveral reads HasText Shown Left apt files old old (Err f)) (sym h)
    (kept reads HasText Shown Left apt files old fault a)

-- whatever a task shows
pub nothing_of_task : (reads : ReadsApt) (shown : Shown) (apt : Option (List ℕ)) (files : List (Option (List ℕ)))
    (old : Option (List ℕ)) (fault : EngineFault) (r : Result (Unit {0}) EngineFault)
    → IsErrAnd r (λ x. x ≡ fault) → IsSeveralFault apt files fault → Shows reads shown apt files old old r
nothing_of_task reads Page apt files old fault r h a =
    nothing_shown reads HavePage (AppendsPage old old) (AppendsPage old old) apt files old fault r h a
nothing_of_task reads (Table table) apt files old fault r h a =
    nothing_shown reads AreLawful (AppendsTable old old) (Keeps old old) apt files old fault r h a

-- the place of the only journal
only_place : (js : List JournalParts) (place : ℕ) (j : JournalParts) → length js ≡ 1 → slice_get js place ≡ Some j
    → place ≡ 0
only_place js place j one there = omega (arith, one, slice_get_within js place j there)

-- what is shown of the journals that the files have
pub all_shown : (reads : ReadsApt) (HasText : InstructionParts → List JournalParts → Type 0) (Shown Left : Type 0)
    (apt : Option (List ℕ)) (files : List (Option (List ℕ))) (old new : Option (List ℕ)) (i : InstructionParts)
    (js : List JournalParts) (r : Result (Unit {0}) EngineFault)
    → Says reads apt (Ok i) → HaveJournals files js → length (postings_of js) ≤ MOST_POSTINGS
    → ShowsAll HasText Shown Left i js old new r
    → ShowsSeveral reads HasText Shown Left apt files old new r
all_shown reads HasText Shown Left apt files old new i js (Ok u) a b few (lawful, shown) = (
  record { instruction = i; read = js; apt_says = a; journals_say = b; few = few; holds = lawful },
  shown,
)
all_shown reads HasText Shown Left apt files old new i js (Err fault) a b few (inl (inl (memory, same), none)) =
    subst (λ (f : EngineFault). ShowsSeveral reads HasText Shown Left apt files old new (Err f)) (sym memory)
    (inl (inr (inl refl)), same)
all_shown reads HasText Shown Left apt files old new i js (Err fault) a b few (inl (inr (write, some), has)) =
    subst (λ (f : EngineFault). ShowsSeveral reads HasText Shown Left apt files old new (Err f)) (sym write) (
      record { instruction = i; read = js; apt_says = a; journals_say = b; few = few; holds = has write },
      some,
    )
all_shown reads HasText Shown Left apt files old new i js (Err fault) a b few
    (inr (place, why, is, first, left)) = elim (cases_eq (length js) 1) [
      | inl e ↦ (
          let named : replay_fault (length js) place why ≡ Replay why =
          cond-true _ _ _ (eq-eqb (length js) 1 e) in
          let only : place ≡ 0 = only_place js place first.journal e first.there in
          subst (λ (f : EngineFault). ShowsSeveral reads HasText Shown Left apt files old new (Err f))
          (sym (is ∙ named)) (
            sym b.one_each ∙ e,
            record {
              instruction = i;
              read = js;
              apt_says = a;
              journals_say = b;
              few = few;
              holds = subst (λ (n : ℕ). IsFirstUnlawful i js n why) only first;
            },
            left,
          ))
      | inr ne ↦ (
          let named : replay_fault (length js) place why ≡ ReplayOf (place + 1) why =
          cond-false _ _ _ (ne_eqb (length js) 1 ne) in
          subst (λ (f : EngineFault). ShowsSeveral reads HasText Shown Left apt files old new (Err f))
          (sym (is ∙ named)) (
            λ one. ne (b.one_each ∙ one),
            record {
              instruction = i;
              read = js;
              apt_says = a;
              journals_say = b;
              few = few;
              holds = (place, refl, first);
            },
            left,
          ))
    ]

pub ruleset pages = (pages_shown, unlawful_shown, no_memory)

pub ruleset tables = (tables_shown, nothing_left, no_memory)

pub ruleset shown = (nothing_of_task, all_shown)

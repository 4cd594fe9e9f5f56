-- Two journals, each with numbers of its own.
use Rattle.std.proofs.Common.{◌≡◌, ◌≤◌, ℕ, List, [], ◌∷◌, Option, Ok, Some, length, map, get_or, ap, sym, subst, ◌∙◌, arith}
use Rattle.std.specs.Prelude.{slice_get}
use Rattle.std.proofs.lemmas.List.{length-map}
use Rattle.std.proofs.lemmas.Option.{same_Some, slice_get_read}
use Rattle.buck_apt_instruction.specs.Settings.{SettingsParts, own_numbers}
use Rattle.buck_apt_instruction.specs.Instruction.{InstructionParts}
use Rattle.buck_book_postings.specs.declared.posting.TheConstants.{MOST_POSTINGS}
use Rattle.buck_book_journal.specs.Journal.{JournalParts}
use Rattle.buck_page_figures.specs.Journals.{postings_of}
use Rattle.buckfleet_engine_files.specs.Reading.{Says, apt_with}
use Rattle.buckfleet_engine_files.specs.Several.{HaveJournals}
use Rattle.buckfleet_engine_files.proofs.Numbers.{own_reads}
use Rattle.buckfleet_proceeds.specs.Comparison.{SaysTwo}

-- two of them
both : (js : List JournalParts) (one other : JournalParts) → length js ≡ 2 → slice_get js 0 ≡ Some one
    → slice_get js 1 ≡ Some other → js ≡ one ∷ other ∷ []
both [] one other two is is_too = absurd (omega (arith, two))
both (a ∷ []) one other two is is_too = absurd (omega (arith, two))
both (a ∷ b ∷ []) one other two is is_too =
    ap (λ x. x ∷ b ∷ []) (same_Some a one is) ∙ ap (λ x. one ∷ x ∷ []) (same_Some b other is_too)
both (a ∷ b ∷ c ∷ js) one other two is is_too = absurd (omega (arith, two))

pub says_two : {F : Type 0} (held : F → Option (List ℕ)) (s : SettingsParts) (apt : Option (List ℕ)) (files : List F)
    (i : InstructionParts) (js : List JournalParts) (one other : JournalParts)
    → s ≡ own_numbers → Says (apt_with s) apt (Ok i) → HaveJournals (map held files) js → length files ≡ 2
    → length (postings_of js) ≤ MOST_POSTINGS
    → one ≡ get_or js 0 one → other ≡ get_or js 1 other
    → SaysTwo apt (map held files) i one other
says_two held s apt files i js one other own says have two few is is_too =
    let long : length js ≡ 2 = have.one_each ∙ (length-map files held ∙ two) in
    let first = slice_get_read js 2 0 one (sym long) (omega (arith, long)) is in
    let second = slice_get_read js 2 1 other (sym long) (omega (arith, long)) is_too in
    record {
      apt_says = subst (λ reads. Says reads apt (Ok i)) (own_reads s own) says;
      journals_say = subst (HaveJournals (map held files)) (both js one other long first second) have;
      few = subst (λ l. length (postings_of l) ≤ MOST_POSTINGS) (both js one other long first second) few;
    }

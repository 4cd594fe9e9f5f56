-- Several journals as they are read and replayed.
use Rattle.std.proofs.Common.{◌≡◌, ◌⊎◌, ℕ, zero, suc, ◌+◌, ◌<◌, ◌≤◌, inl, inr, List, [], ◌∷◌, ◌++◌, length, take, get_or, Option, Some, None, Result, Ok, Err, refl, sym, ap, subst, ◌∙◌, arith, length-append}
use Rattle.std.specs.Prelude.{slice_get, slice_index_or}
use Rattle.std.specs.Result.{IfErr, IsErrAnd}
use Rattle.std.proofs.lemmas.List.{take_more}
use Rattle.std.proofs.lemmas.Option.{none-some, same_Some, slice_get_cases}
use Rattle.buck_book_journal.specs.Journal.{JournalParts}
use Rattle.buck_book_journal.specs.Reading.{journal_of}
use Rattle.buck_book_journal.specs.Several.{postings_of}
use Rattle.buckfleet_engine_files.specs.declared.fault.EngineFault.{EngineFault}
use Rattle.buckfleet_engine_files.specs.declared.fault.EngineFault.TheVariants.{Memory}
use Rattle.buckfleet_engine_files.specs.Reading.{IsFileFault, Says}
use Rattle.buckfleet_engine_files.specs.Several.{AreJournals, IsJournalsFault, journal_fault}

-- each of these journals is that of the file at its place
abbrev pub AreRead : List (Option (List ℕ)) → List JournalParts → Type 0
AreRead files js = (k : ℕ) (j : JournalParts) → slice_get js k ≡ Some j
    → Says journal_of (slice_index_or files k None) (Ok j)

before_or_last : (js : List JournalParts) (j x : JournalParts) (k : ℕ) → slice_get (js ++ j ∷ []) k ≡ Some x
    → (slice_get js k ≡ Some x) ⊎ ((k ≡ length js) × (j ≡ x))
before_or_last [] j x zero is = inr (refl, same_Some j x is)
before_or_last [] j x (suc k) is = absurd (none-some x is)
before_or_last (y ∷ ys) j x zero is = inl is
before_or_last (y ∷ ys) j x (suc k) is = elim (before_or_last ys j x k is) [
  | inl before ↦ inl before
  | inr last ↦ inr (ap suc last.0, last.1)
]

-- one journal more
pub read_more : (files : List (Option (List ℕ))) (js new : List JournalParts) (j : JournalParts) (place : ℕ)
    → length js ≡ place → new ≡ js ++ j ∷ [] → AreRead files js
    → Says journal_of (slice_index_or files place None) (Ok j) → AreRead files new
read_more files js new j place long is made one k x there =
    elim (before_or_last js j x k (ap (λ (l : List JournalParts). slice_get l k) (sym is) ∙ there)) [
      | inl before ↦ made k x before
      | inr last ↦ (
          let here : Says journal_of (slice_index_or files k None) (Ok j) =
          subst (λ (n : ℕ). Says journal_of (slice_index_or files n None) (Ok j)) (sym (last.0 ∙ long)) one in
          subst (λ (y : JournalParts). Says journal_of (slice_index_or files k None) (Ok y)) last.1 here)
    ]

-- the files whose journals are there were accepted
pub accepted : (files : List (Option (List ℕ))) (js : List JournalParts) (place : ℕ) → length js ≡ place
    → AreRead files js → AreJournals place files
accepted files js place long made k lt = elim (slice_get_cases js k).1 [
  | inl here ↦ (here.0, made k here.0 here.2)
  | inr past ↦ absurd (omega (arith, past.0, lt, long))
]

-- the file at a place is the first that has a fault
pub refused_at : (files : List (Option (List ℕ))) (js : List JournalParts) (known : Option (List ℕ)) (e : EngineFault)
    (number place : ℕ)
    → place < length files → length js ≡ place → number ≡ length files → AreRead files js
    → known ≡ slice_index_or files place None
    → IsFileFault (place + 1) (journal_fault number place) journal_of known e → IsJournalsFault files e
refused_at files js known e number place lt long all made is fault = record {
  place = place;
  exists = lt;
  accepted = accepted files js place long made;
  is_fault =
      subst (λ (n : ℕ).
      IsFileFault (place + 1) (journal_fault n place) journal_of (slice_index_or files place None) e) all
      (subst (λ (o : Option (List ℕ)). IsFileFault (place + 1) (journal_fault number place) journal_of o e) is fault);
}

-- memory ran out at a place
pub memory_at : {X : Type 0} (files : List (Option (List ℕ))) (js : List JournalParts) (place : ℕ)
    (r : Result X EngineFault)
    → place < length files → length js ≡ place → AreRead files js → IsErrAnd r (λ e. e ≡ Memory)
    → IfErr r (IsJournalsFault files)
memory_at files js place (Ok x) lt long made is = tt
memory_at files js place (Err e) lt long made is =
    record { place = place; exists = lt; accepted = accepted files js place long made; is_fault = inr (inl is) }

-- the postings of one journal more
postings_push : (js : List JournalParts) (j : JournalParts)
    → length (postings_of (js ++ j ∷ [])) ≡ length (postings_of js) + length j.entries
postings_push [] j = omega arith
postings_push (x ∷ []) j = length-append x.entries j.entries
postings_push (x ∷ y ∷ more) j =
    let rest = postings_push (y ∷ more) j in
    let here = length-append x.entries (postings_of (y ∷ more)) in
    let there = length-append x.entries (postings_of ((y ∷ more) ++ j ∷ [])) in
    there ∙ omega (arith, rest, here)

pub postings_more : (js : List JournalParts) (k : ℕ) (j : JournalParts) → k < length js → j ≡ get_or js k j
    → length (postings_of (take (k + 1) js)) ≡ length (postings_of (take k js)) + length j.entries
postings_more js k j lt is =
    let next : take (k + 1) js ≡ take k js ++ j ∷ [] = take_more js k j lt
    ∙ ap (λ (x : JournalParts). take k js ++ x ∷ []) (sym is) in
    ap (λ (l : List JournalParts). length (postings_of l)) next ∙ postings_push (take k js) j

-- no journal has more postings than all together
pub few_of_all : (js : List JournalParts) (k : ℕ) (j : JournalParts) → slice_get js k ≡ Some j
    → length j.entries ≤ length (postings_of js)
few_of_all [] k j is = absurd (none-some j is)
few_of_all (x ∷ []) zero j is =
    subst (λ (y : JournalParts). length y.entries ≤ length x.entries) (same_Some x j is) (omega arith)
few_of_all (x ∷ []) (suc k) j is = absurd (none-some j is)
few_of_all (x ∷ y ∷ more) zero j is =
    let all = length-append x.entries (postings_of (y ∷ more)) in
    subst (λ (z : JournalParts). length z.entries ≤ length (x.entries ++ postings_of (y ∷ more))) (same_Some x j is)
    (omega (arith, all))
few_of_all (x ∷ y ∷ more) (suc k) j is =
    let all = length-append x.entries (postings_of (y ∷ more)) in
    let rest = few_of_all (y ∷ more) k j is in
    omega (arith, all, rest)

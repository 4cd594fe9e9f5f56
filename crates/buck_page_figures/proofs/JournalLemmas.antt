-- The postings of several journals, one journal after the other.
use Rattle.std.proofs.Common.{◌≡◌, ℕ, zero, suc, ◌+◌, ◌<◌, ◌≤◌, List, [], ◌∷◌, ◌++◌, length, take, get_or, refl, sym, ap, ◌∙◌, arith, length-append}
use Rattle.std.specs.Prelude.{slice_get, Some, sum_by}
use Rattle.std.proofs.lemmas.Option.{slice_get_read}
use Rattle.std.proofs.lemmas.List.{append-nil}
use Rattle.std.proofs.lemmas.List.Sums.{sum_by-append, sum_by-cons}
use Rattle.buck_apt_instruction.specs.Instruction.{InstructionParts, IsInstruction, classes}
use Rattle.buck_book_postings.specs.declared.posting.Posting.{Posting}
use Rattle.buck_book_postings.specs.Posting.{opening_targets}
use Rattle.buck_book_postings.proofs.Wanted.{opening_valid}
use Rattle.buck_book_journal.specs.Journal.{JournalParts}
use Rattle.buck_page_figures.specs.Journals.{postings_of, entries_in, sheets_in}

-- the instruction's targets: one for each class
pub opening_number : (i : InstructionParts) (targets : List ℕ) → targets ≡ opening_targets i → IsInstruction i
    → length targets ≡ classes i
opening_number i targets is valid = ap length is ∙ (opening_valid i valid).one_each

pub postings-cons : (j : JournalParts) (js : List JournalParts) → postings_of (j ∷ js) ≡ j.entries ++ postings_of js
postings-cons j [] = sym (append-nil j.entries)
postings-cons j (k ∷ more) = refl

-- each sum over all is the sum of those over each
pub sums_of_each : (n : Posting → ℕ) (js : List JournalParts)
    → sum_by n (postings_of js) ≡ sum_by (λ j. sum_by n j.entries) js
sums_of_each n [] = refl
sums_of_each n (j ∷ js) =
    ap (sum_by n) (postings-cons j js) ∙ sum_by-append n j.entries (postings_of js)
    ∙ ap (λ m. sum_by n j.entries + m) (sums_of_each n js) ∙ sym (sum_by-cons (λ (k : JournalParts). sum_by n k.entries) j js)

number-cons : (j : JournalParts) (js : List JournalParts)
    → length (postings_of (j ∷ js)) ≡ length j.entries + length (postings_of js)
number-cons j js = ap length (postings-cons j js) ∙ length-append j.entries (postings_of js)

-- how many there are
pub number_is : (js : List JournalParts) → length (postings_of js) ≡ sum_by (λ j. length j.entries) js
number_is [] = refl
number_is (j ∷ js) =
    number-cons j js ∙ ap (λ m. length j.entries + m) (number_is js)
    ∙ sym (sum_by-cons (λ (k : JournalParts). length k.entries) j js)

-- how many come before the next journal
number_next : (js : List JournalParts) (k : ℕ) → k < length js
    → length (postings_of (take (suc k) js)) ≡ length (postings_of (take k js)) + length (entries_in (slice_get js k))
number_next [] k lt = absurd (omega arith)
number_next (j ∷ js) zero lt = omega (arith, number-cons j [])
number_next (j ∷ js) (suc k) lt =
    omega (
      arith,
      number-cons j (take (suc k) js),
      number-cons j (take k js),
      number_next js k (omega arith),
    )

pub before_next : (js : List JournalParts) (k : ℕ) → k < length js
    → length (postings_of (take (k + 1) js)) ≡ length (postings_of (take k js)) + length (entries_in (slice_get js k))
before_next js k lt =
    let one : k + 1 ≡ suc k = omega arith in
    ap (λ n. length (postings_of (take n js))) one ∙ number_next js k lt

-- how many come up to the end of a journal
pub within_all : (js : List JournalParts) (k : ℕ) → k < length js
    → length (postings_of (take k js)) + length (entries_in (slice_get js k)) ≤ length (postings_of js)
within_all [] k lt = absurd (omega arith)
within_all (j ∷ js) zero lt = omega (arith, number-cons j js)
within_all (j ∷ js) (suc k) lt =
    omega (arith, number-cons j js, number-cons j (take k js), within_all js k (omega arith))

pub whole_all : (js : List JournalParts) (k : ℕ) → k + 1 ≡ length js
    → length (postings_of (take k js)) + length (entries_in (slice_get js k)) ≡ length (postings_of js)
whole_all [] k last = absurd (omega arith)
whole_all (j ∷ []) zero last = omega (arith, number-cons j [])
whole_all (j ∷ i ∷ js) zero last = absurd (omega arith)
whole_all (j ∷ js) (suc k) last =
    omega (arith, number-cons j js, number-cons j (take k js), whole_all js k (omega arith))

-- the postings of the journal at a place
pub entries_there : (js : List JournalParts) (k : ℕ) (j : JournalParts) → k < length js → j ≡ get_or js k j
    → entries_in (slice_get js k) ≡ j.entries
entries_there js k j lt is = ap entries_in (slice_get_read js (length js) k j refl lt is)

pub sheets_there : (js : List JournalParts) (k : ℕ) (j : JournalParts) → k < length js → j ≡ get_or js k j
    → sheets_in (slice_get js k) ≡ j.sheets
sheets_there js k j lt is = ap sheets_in (slice_get_read js (length js) k j refl lt is)

-- the posting at a place among all
get_left : (xs ys : List Posting) (k : ℕ) → k < length xs → slice_get (xs ++ ys) k ≡ slice_get xs k
get_left [] ys k lt = absurd (omega arith)
get_left (x ∷ xs) ys zero lt = refl
get_left (x ∷ xs) ys (suc k) lt = get_left xs ys k (omega arith)

get_right : (xs ys : List Posting) (k : ℕ) → slice_get (xs ++ ys) (length xs + k) ≡ slice_get ys k
get_right [] ys k = ap (λ n. slice_get ys n) (omega arith)
get_right (x ∷ xs) ys k =
    let one : length (x ∷ xs) + k ≡ suc (length xs + k) = omega arith in
    ap (λ n. slice_get (x ∷ xs ++ ys) n) one ∙ get_right xs ys k

pub posting_there : (js : List JournalParts) (k here : ℕ) → k < length js → here < length (entries_in (slice_get js k))
    → slice_get (postings_of js) (length (postings_of (take k js)) + here) ≡ slice_get (entries_in (slice_get js k)) here
posting_there [] k here lt lt' = absurd (omega arith)
posting_there (j ∷ js) zero here lt lt' =
    let none : length (postings_of (take zero (j ∷ js))) + here ≡ here = omega arith in
    ap (λ n. slice_get (postings_of (j ∷ js)) n) none ∙ ap (λ ps. slice_get ps here) (postings-cons j js)
    ∙ get_left j.entries (postings_of js) here lt'
posting_there (j ∷ js) (suc k) here lt lt' =
    let on : length (postings_of (take (suc k) (j ∷ js))) + here
    ≡ length j.entries + (length (postings_of (take k js)) + here) = omega (arith, number-cons j (take k js)) in
    ap (λ n. slice_get (postings_of (j ∷ js)) n) on
    ∙ ap (λ ps. slice_get ps (length j.entries + (length (postings_of (take k js)) + here))) (postings-cons j js)
    ∙ get_right j.entries (postings_of js) (length (postings_of (take k js)) + here)
    ∙ posting_there js k here (omega arith) lt'

-- what holds of each posting of each journal holds of each posting of all
module _ (P : Posting → Type 0) where
  joined : (xs ys : List Posting)
      → ((k : ℕ) (x : Posting) → slice_get xs k ≡ Some x → P x)
      → ((k : ℕ) (x : Posting) → slice_get ys k ≡ Some x → P x)
      → (k : ℕ) (x : Posting) → slice_get (xs ++ ys) k ≡ Some x → P x
  joined [] ys h h' k x at = h' k x at
  joined (y ∷ xs) ys h h' zero x at = h zero x at
  joined (y ∷ xs) ys h h' (suc k) x at = joined xs ys (λ m z there. h (suc m) z there) h' k x at

  pub of_all : (js : List JournalParts)
      → ((j : ℕ) (read : JournalParts) → slice_get js j ≡ Some read
      → (k : ℕ) (x : Posting) → slice_get read.entries k ≡ Some x → P x)
      → (k : ℕ) (x : Posting) → slice_get (postings_of js) k ≡ Some x → P x
  of_all [] each k x at = absurd (cc)
  of_all (j ∷ js) each k x at =
      joined j.entries (postings_of js) (λ m y there. each zero j refl m y there)
      (of_all js (λ m read there. each (suc m) read there)) k x
      (ap (λ ps. slice_get ps k) (sym (postings-cons j js)) ∙ at)

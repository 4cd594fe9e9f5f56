-- The prices of a lawful journal, held against a rule where a period begins.
use Rattle.std.proofs.Common.{◌≡◌, ℕ, ◌+◌, ◌<◌, ◌≤◌, inl, inr, List, length, take, slice_index, refl, sym, ◌∙◌, ap, subst, arith}
use Rattle.std.specs.Prelude.{Option, Some, None, slice_get}
use Rattle.std.proofs.lemmas.Bool.{cases_lt}
use Rattle.std.proofs.lemmas.Option.{slice_get_cases, slice_get_within, none-some}
use Rattle.buck_apt_instruction.specs.Instruction.{InstructionParts, classes, index_of}
use Rattle.buck_rule.specs.GivenBy.{GivesBy}
use Rattle.buck_rule.specs.declared.named.NamedRule.{NamedRule}
use Rattle.buck_book_postings.specs.History.{HistoryParts, IsLawful, Holds}
use Rattle.buck_book_postings.specs.Pricing.{Calls, AreAnswers}
use Rattle.buck_book_postings.specs.Posting.{ends_of, cuts_since_end}
use Rattle.buck_book_postings.specs.Walk.{IsCountable, WalkParts, passed, walk_of}
use Rattle.buck_book_postings.specs.declared.posting.Posting.{Posting}
use Rattle.buck_book_postings.specs.declared.posting.Posting.TheVariants.{Cut, Demand}
use Rattle.buck_book_postings.proofs.Ends.{ends_take-le}
use Rattle.buck_book_postings.proofs.Places.{ClassAt, class_at, place_lt}
use Rattle.buck_book_journal.specs.Journal.{JournalParts, history_of, version_at, prices_then}
use Rattle.buckfleet_engine_files.specs.declared.check_fault.CheckFault.TheVariants.{Price}
use Rattle.buckfleet_engine_files.specs.Ruled.{ArePricesAt, FollowsRule}
use Rattle.buckfleet_engine_cross_check.specs.Ties.{IsOffRule, IsPriceFaultAt}
use Rattle.buckfleet_engine_cross_check.specs.inner.Tie.{AreSameBelow, DifferFirstAt}
use Rattle.buckfleet_engine_files.proofs.Ruled.{by_rule}

-- the sheet in force is there
pub version_in : (h : HistoryParts) (k : ℕ) → IsLawful h → version_at h k < length h.sheets
version_in h k l = omega (arith, l.sheets_number, ends_take-le h.instruction h.postings k)

-- a posting of a lawful history can be counted
countable : (i : InstructionParts) (sheets : List (List ℕ)) (x : Posting) → Holds i sheets x → IsCountable i x
countable i sheets (Cut e) holds = holds.0.admissible
countable i sheets (Demand d) holds = holds

-- the prices in force at a place, held against a closure's answers to how the classes stand there
module _ {F : Type 0} (g : Calls F) (f : F) (h : HistoryParts) (at : ℕ) (wanted : List ℕ)
    (answers : AreAnswers g f h.instruction (take at h.postings) wanted)
    (number : length (prices_then h at) ≡ classes h.instruction) (rule : NamedRule) (gives : GivesBy g f rule) where
  pub none_there : AreSameBelow (prices_then h at) wanted (length (prices_then h at)) → ArePricesAt rule h at
  none_there same begins c k =
      same (index_of h.instruction c) (omega (arith, number, place_lt h.instruction c k))
      ∙ by_rule g f rule h.instruction (take at h.postings) wanted gives answers c k

  pub off_there : (place : ℕ) → DifferFirstAt (prices_then h at) wanted place
      → IsOffRule rule h.instruction (take at h.postings) (prices_then h at) place
      (slice_index (prices_then h at) place) (slice_index wanted place)
  off_there place d =
      let w : ClassAt h.instruction place = class_at h.instruction place (omega (arith, number, d.within)) in
      record {
        class = w.class;
        exists = w.is_class;
        place_is = w.place;
        price_is = refl;
        wanted_is = ap (λ p. slice_index wanted p) (sym w.place)
            ∙ by_rule g f rule h.instruction (take at h.postings) wanted gives answers w.class w.is_class;
        differ = d.differ;
        least = λ c k lt.
            d.same (index_of h.instruction c) lt
            ∙ by_rule g f rule h.instruction (take at h.postings) wanted gives answers c k;
      }

-- the same at a place that a way has come to
module _ {F : Type 0} (g : Calls F) (f : F) (w : WalkParts) (j : JournalParts) (prices wanted : List ℕ)
    (own : w.postings ≡ j.entries) (are : prices ≡ prices_then (history_of w.instruction j) w.at)
    (number : length prices ≡ classes w.instruction) (answers : AreAnswers g f w.instruction (passed w) wanted) where
  answers_there : AreAnswers g f w.instruction (take w.at j.entries) wanted
  answers_there = subst (λ ps. AreAnswers g f w.instruction (take w.at ps) wanted) own answers

  number_there : length (prices_then (history_of w.instruction j) w.at) ≡ classes w.instruction
  number_there = ap (λ (ps : List ℕ). length ps) (sym are) ∙ number

  pub none_at_walk : AreSameBelow prices wanted (length prices) → (rule : NamedRule) → GivesBy g f rule
      → ArePricesAt rule (history_of w.instruction j) w.at
  none_at_walk same rule gives =
      none_there g f (history_of w.instruction j) w.at wanted answers_there number_there rule gives
      (subst (λ (ps : List ℕ). AreSameBelow ps wanted (length ps)) are same)

  pub fault_at_walk : (version place price want : ℕ) → cuts_since_end w.instruction (passed w) ≡ 0
      → version ≡ ends_of w.instruction (passed w) → DifferFirstAt prices wanted place
      → price ≡ slice_index prices place → want ≡ slice_index wanted place → (rule : NamedRule) → GivesBy g f rule
      → IsPriceFaultAt rule (history_of w.instruction j) w.at (Price version place price want)
  fault_at_walk version place price want begins v d p q rule gives =
      let h = history_of w.instruction j in
      let off = off_there g f h w.at wanted answers_there number_there rule gives place
      (subst (λ (ps : List ℕ). DifferFirstAt ps wanted place) are d) in
      let price_is : price ≡ slice_index (prices_then h w.at) place = p ∙ ap (λ ps. slice_index ps place) are in
      record {
        begins = subst (λ ps. cuts_since_end w.instruction (take w.at ps) ≡ 0) own begins;
        class = place;
        price = price;
        wanted = want;
        off = rw (price_is, q) off;
        fault_is = ap (λ n. Price n place price want) (v ∙ ap (λ ps. ends_of w.instruction (take w.at ps)) own);
      }

-- a place that a way has come to
module _ (i : InstructionParts) (j : JournalParts) (w : WalkParts) (same : w ≡ walk_of i j.entries w.at) where
  there_is : (x : Option Posting) → x ≡ slice_get w.postings w.at → slice_get j.entries w.at ≡ x
  there_is x there = sym (there ∙ ap (λ (v : WalkParts). slice_get v.postings w.at) same)

  pub next_countable : (x : Posting) → IsLawful (history_of i j) → Some x ≡ slice_get w.postings w.at → IsCountable i x
  next_countable x l there = countable i j.sheets x (l.postings_follow w.at x (there_is (Some x) there)).holds

  pub history_there : history_of w.instruction j ≡ history_of i j
  history_there = ap (λ (v : WalkParts). history_of v.instruction j) same

  module _ (rule : NamedRule) where
    -- all postings were passed
    pub passed_all : ((k : ℕ) → k < w.at → ArePricesAt rule (history_of i j) k)
        → ArePricesAt rule (history_of i j) w.at → None ≡ slice_get w.postings w.at → FollowsRule rule (history_of i j)
    passed_all before here end at le = elim (cases_lt at w.at) [
      | inl old ↦ before at old
      | inr new ↦ elim (slice_get_cases j.entries w.at).1 [
        | inl more ↦ absurd (none-some more.0 (sym (there_is None end) ∙ more.2))
        | inr past ↦
            (let is : w.at ≡ at = omega (arith, new, past.0, le) in subst (ArePricesAt rule (history_of i j)) is here)
      ]
    ]

    -- one was passed
    pub passed_more : (v : WalkParts) → v ≡ walk_of w.instruction w.postings (w.at + 1)
        → ((k : ℕ) → k < w.at → ArePricesAt rule (history_of i j) k) → ArePricesAt rule (history_of i j) w.at → (k : ℕ)
        → k < v.at → ArePricesAt rule (history_of i j) k
    passed_more v next before here k lt =
        let further : v.at ≡ w.at + 1 = ap (λ (x : WalkParts). x.at) next in
        elim (cases_lt k w.at) [
          | inl old ↦ before k old
          | inr new ↦
              (let is : w.at ≡ k = omega (arith, lt, new, further) in
              subst (ArePricesAt rule (history_of i j)) is here)
        ]

  pub same_more : (v : WalkParts) → v ≡ walk_of w.instruction w.postings (w.at + 1) → v ≡ walk_of i j.entries v.at
  same_more v next =
      let further : w.at + 1 ≡ v.at = sym (ap (λ (x : WalkParts). x.at) next) in
      next ∙ ap (λ (x : WalkParts). walk_of x.instruction x.postings (w.at + 1)) same ∙ ap (walk_of i j.entries) further

  pub next_within : (v : WalkParts) → v ≡ walk_of w.instruction w.postings (w.at + 1) → (x : Posting)
      → Some x ≡ slice_get w.postings w.at → v.at ≤ length j.entries
  next_within v next x there =
      omega (
        arith,
        ap (λ (y : WalkParts). y.at) next,
        slice_get_within j.entries w.at x (there_is (Some x) there),
      )

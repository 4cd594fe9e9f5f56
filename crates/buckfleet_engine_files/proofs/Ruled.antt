-- Sheets whose prices are a closure's answers, if these are what a rule gives.
use Rattle.std.proofs.Common.{◌≡◌, ℕ, zero, suc, Bool, false, cond, nat_lt, ◌+◌, ◌*◌, ◌<◌, inl, inr, List, [], ◌∷◌, ◌++◌, length, take, refl, sym, ap, ◌∙◌, arith}
use Rattle.std.specs.Prelude.{slice_get, slice_index, Some}
use Rattle.std.proofs.lemmas.Bool.{cases_Bool}
use Rattle.std.proofs.lemmas.Bool.Decides.{nat_tests}
use Rattle.buck_apt_instruction.specs.declared.class.Class.{Class}
use Rattle.buck_apt_instruction.specs.Instruction.{InstructionParts, IsClass, index_of}
use Rattle.buck_rule.specs.declared.standing.Standing.{Standing}
use Rattle.buck_rule.specs.Standing.{cut_share, wanted_share}
use Rattle.buck_book_postings.specs.declared.posting.Posting.{Posting}
use Rattle.buck_book_postings.specs.Posting.{is_end, ends_of, cuts_since_end}
use Rattle.buck_book_postings.specs.History.{HistoryParts, IsLawful, IsEnd, standing_of}
use Rattle.buck_book_postings.specs.Pricing.{Calls, AreAnswers, AreSheetsBy}
use Rattle.buck_book_postings.proofs.Ends.{take_one_more, ends_with_end, cuts_without, true_false}
use Rattle.buck_book_journal.specs.Journal.{version_at}
use Rattle.buck_rule.specs.declared.named.NamedRule.{NamedRule}
use Rattle.buck_rule.specs.declared.named.NamedRule.TheVariants.{Steady, Linear, Step, Root}
use Rattle.buck_rule.specs.Named.{price_by}
use Rattle.buck_rule.specs.GivenBy.{GivesBy}
use Rattle.buckfleet_engine_files.specs.Ruled.{FollowsRule, IsByRule}

-- on target
even : (cut wanted under over base : ℕ) → cut ≡ wanted
    → cond (nat_lt cut wanted) under (cond (nat_lt wanted cut) over base) ≡ base
even cut wanted under over base same =
    let not_under : nat_lt cut wanted ≡ false = grind (arith, nat_tests, same) in
    let not_over : nat_lt wanted cut ≡ false = grind (arith, nat_tests, same) in
    ap (λ (b : Bool). cond b under (cond (nat_lt wanted cut) over base)) not_under
    ∙ ap (λ (b : Bool). cond b over base) not_over

no_shares : (s : Standing) → s.count ≡ 0 → s.counts ≡ 0 → cut_share s ≡ wanted_share s
no_shares s none no_log =
    let left : 0 * s.targets ≡ 0 = omega arith in
    let right : s.target * 0 ≡ 0 = omega arith in
    ap (λ (n : ℕ). n * s.targets) none ∙ left ∙ sym right ∙ ap (λ (n : ℕ). s.target * n) (sym no_log)

-- if nothing was cut, each rule gives the base price
nothing_cut : (rule : NamedRule) (s : Standing) → s.count ≡ 0 → s.counts ≡ 0 → price_by rule s ≡ s.base
nothing_cut Steady s none no_log = refl
nothing_cut Linear s none no_log = even (cut_share s) (wanted_share s) _ _ s.base (no_shares s none no_log)
nothing_cut Step s none no_log = even (cut_share s) (wanted_share s) _ _ s.base (no_shares s none no_log)
nothing_cut Root s none no_log = even (cut_share s) (wanted_share s) _ _ s.base (no_shares s none no_log)

-- answers of such a closure
pub by_rule : {F : Type 0} (g : Calls F) (f : F) (rule : NamedRule) (i : InstructionParts) (ps : List Posting)
    (prices : List ℕ)
    → GivesBy g f rule → AreAnswers g f i ps prices → (c : Class) (k : IsClass i c) → IsByRule rule i ps prices c k
by_rule g f rule i ps prices gives answers = λ c k.
    let a = answers c k in gives.by_rule a.shown _ a.says.met ∙ ap (λ s. price_by rule s) a.shows

-- the posting before a place where a period begins is an end
last_is_end : (i : InstructionParts) (ps : List Posting) (n : ℕ) (x : Posting) → slice_get ps n ≡ Some x
    → cuts_since_end i (take (n + 1) ps) ≡ 0 → IsEnd i (take n ps) x
last_is_end i ps n x at none = elim (cases_Bool (is_end i.period (cuts_since_end i (take n ps)) x)) [
  | inl yes_ ↦ yes_
  | inr no_ ↦
      let more : cuts_since_end i (take n ps ++ x ∷ []) ≡ cuts_since_end i (take n ps) + 1 =
      cuts_without i (take n ps) x (λ e. true_false (sym e ∙ no_)) in
      absurd (omega (arith, none, ap (λ xs. cuts_since_end i xs) (take_one_more ps n x at), more))
]

there : {X : Type 0} (xs : List X) (n : ℕ) → n < length xs → (x : X) × (slice_get xs n ≡ Some x)
there [] n lt = absurd (omega (arith, lt))
there (x ∷ xs) zero lt = (x, refl)
there (x ∷ xs) (suc n) lt = there xs n (omega (arith, lt))

-- the prices of all sheets are what the rule gives
pub follows_rule : {F : Type 0} (g : Calls F) (f : F) (rule : NamedRule) (h : HistoryParts) → GivesBy g f rule
    → IsLawful h → AreSheetsBy g f h → FollowsRule rule h
follows_rule g f rule h gives lawful by zero le = λ begins c k.
    ap (λ prices. slice_index prices (index_of h.instruction c)) lawful.base_sheet
    ∙ sym (nothing_cut rule (standing_of h.instruction k.assortment c []) refl refl)
follows_rule g f rule h gives lawful by (suc n) le = λ begins c k.
    let i = h.instruction in
    let last = there h.postings n (omega (arith, le)) in
    let next : suc n ≡ n + 1 = omega arith in
    let end : IsEnd i (take n h.postings) last.0 =
    last_is_end i h.postings n last.0 last.1 (ap (λ m. cuts_since_end i (take m h.postings)) (sym next) ∙ begins) in
    let version : version_at h (suc n) ≡ ends_of i (take n h.postings) + 1 =
    ap (λ m. ends_of i (take m h.postings)) next ∙ ap (λ xs. ends_of i xs) (take_one_more h.postings n last.0 last.1)
    ∙ ends_with_end i (take n h.postings) last.0 end in
    rw (version, next) (by_rule g f rule i (take (n + 1) h.postings) _ gives (by.answers n last.0 last.1 end) c k)

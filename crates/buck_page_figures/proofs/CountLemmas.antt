-- Counts with one log more.
use Rattle.std.proofs.Common.{◌≡◌, ℕ, ◌+◌, ◌<◌, ◌==◌, List, true, false, cond, length, take, set, get_or, sym, subst, ap, ◌∙◌, inl, inr, arith, get_or-set_other, get_or-set_same, length-set, length-take-le}
use Rattle.std.proofs.lemmas.Bool.Decides.{eqb_tells}
use Rattle.std.proofs.lemmas.List.Sums.{sum_by_more}
use Rattle.buck_apt_instruction.specs.declared.class.Class.{Class}
use Rattle.buck_apt_instruction.specs.Instruction.{InstructionParts, IsClass, index_of}
use Rattle.buck_stem_shape.specs.Stem.{StemParts}
use Rattle.buck_value.specs.declared.log.Log.{Log}
use Rattle.buck_value.specs.Allowed.{class_of}
use Rattle.buck_book_postings.specs.Counts.{is_class, class_logs}
use Rattle.buck_book_postings.proofs.Cuts.{place_tells}
use Rattle.buck_page_figures.specs.inner.Counted.{AreCountsWith}

-- a class has one log more, if the log is of it
class_more : (i : InstructionParts) (c : Class) (stem : StemParts) (logs : List Log) (k : ℕ) (g : Log) → k < length logs
    → g ≡ get_or logs k g
    → class_logs i c stem (take (k + 1) logs)
    ≡ class_logs i c stem (take k logs) + cond (is_class c (class_of i stem g)) 1 0
class_more i c stem logs k g lt is =
    sum_by_more (λ x. cond (is_class c (class_of i stem x)) 1 0) logs k g lt
    ∙ ap (λ x. class_logs i c stem (take k logs) + cond (is_class c (class_of i stem x)) 1 0) (sym is)

-- the counts with one log more
pub count_more : (i : InstructionParts) (stem : StemParts) (logs : List Log) (k p : ℕ) (g : Log) (before now : List ℕ)
    → k < length logs → g ≡ get_or logs k g
    → p ≡ index_of i (class_of i stem g) → IsClass i (class_of i stem g) → p < length now
    → AreCountsWith i stem (take k logs) before now
    → AreCountsWith i stem (take (k + 1) logs) before (set now p (get_or now p 0 + 1))
count_more i stem logs k p g before now lt is place class within counts = record {
  same_number = grind (arith, length-set, counts.same_number);
  each = λ c has. elim (eqb_tells p (index_of i c)) [
    | inl e ↦ (
        let test : is_class c (class_of i stem g) ≡ true = sym (place_tells i c (class_of i stem g) has class)
        ∙ ap (λ q. q == index_of i c) (sym place) ∙ e.0 in
        let one = class_more i c stem logs k g lt is ∙ ap (λ b. class_logs i c stem (take k logs) + cond b 1 0) test in
        let here : get_or (set now p (get_or now p 0 + 1)) (index_of i c) 0 ≡ get_or now (index_of i c) 0 + 1 =
        subst (λ q. get_or (set now p (get_or now p 0 + 1)) q 0 ≡ get_or now q 0 + 1) e.1
        (get_or-set_same now p (get_or now p 0 + 1) 0 within) in
        omega (arith, here, one, counts.each c has))
    | inr e ↦ (
        let test : is_class c (class_of i stem g) ≡ false = sym (place_tells i c (class_of i stem g) has class)
        ∙ ap (λ q. q == index_of i c) (sym place) ∙ e.0 in
        let none = class_more i c stem logs k g lt is ∙ ap (λ b. class_logs i c stem (take k logs) + cond b 1 0) test in
        let here : get_or (set now p (get_or now p 0 + 1)) (index_of i c) 0 ≡ get_or now (index_of i c) 0 =
        get_or-set_other now p (index_of i c) (get_or now p 0 + 1) 0 (λ q. e.1 (sym q)) in
        omega (arith, here, none, counts.each c has))
  ];
  low = λ q. elim (eqb_tells p q) [
    | inl e ↦ (
        let here : get_or (set now p (get_or now p 0 + 1)) q 0 ≡ get_or now q 0 + 1 =
        subst (λ r. get_or (set now p (get_or now p 0 + 1)) r 0 ≡ get_or now r 0 + 1) e.1
        (get_or-set_same now p (get_or now p 0 + 1) 0 within) in
        omega (
          arith,
          here,
          counts.low q,
          length-take-le k logs (omega arith),
          length-take-le (k + 1) logs (omega arith),
        ))
    | inr e ↦ (
        let here : get_or (set now p (get_or now p 0 + 1)) q 0 ≡ get_or now q 0 =
        get_or-set_other now p q (get_or now p 0 + 1) 0 (λ r. e.1 (sym r)) in
        omega (
          arith,
          here,
          counts.low q,
          length-take-le k logs (omega arith),
          length-take-le (k + 1) logs (omega arith),
        ))
  ];
}

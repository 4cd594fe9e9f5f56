-- The logs of an admissible cutting: each is allowed, and there are at most 80.
use Rattle.buck_book_postings.proofs.Words.{◌<◌, get_or, slice_get_within, ◌≡◌, ℕ, ◌+◌, ◌*◌, ◌≤◌, ◌==◌, true, cond, List, [], ◌∷◌, All, length, count_by, refl, sym, ◌∙◌, arith, eqb-true, eq-eqb, rules, and_parts, and_from, ne_eqb, cases_eq}
use Rattle.buck_book_postings.proofs.Words.{false_from_ne_true, All-nil, All-cons, sum_by-cons, sum_by-le-sum_by, Class, InstructionParts, IsInstruction, IsClass, index_of, StemParts, IsStem, stem_length, Log, IsAllowed, class_of, end_of}
use Rattle.buck_book_postings.proofs.Words.{class_is_class, allowed_low, IsCutFrom, end_within, is_class, class_logs, assortment_logs, class_place}
use Rattle.buck_book_postings.proofs.Places.{one_place, class_of_assortment}

pub each_allowed : (i : InstructionParts) (stem : StemParts) (from : ℕ) (gs : List Log)
    → IsCutFrom (IsAllowed i stem) (end_of i) from gs → All (IsAllowed i stem) gs
each_allowed i stem from [] c = All-nil (IsAllowed i stem)
each_allowed i stem from (g ∷ gs) c = All-cons (IsAllowed i stem) g gs c.1 (each_allowed i stem (end_of i g) gs c.2)

-- each log's assortment is there
pub each_within : (i : InstructionParts) (stem : StemParts) (gs : List Log) (n : ℕ) → All (IsAllowed i stem) gs
    → n ≡ length i.assortments → All (λ g. g.assortment < n) gs
each_within i stem gs n allowed is k d lt =
    rw is (slice_get_within i.assortments (get_or gs k d).assortment _ (allowed k d lt).exists)

long_enough : (i : InstructionParts) (stem : StemParts) (from : ℕ) (gs : List Log) → IsInstruction i
    → from ≤ stem_length stem.samples → IsCutFrom (IsAllowed i stem) (end_of i) from gs
    → 500 * length gs + from ≤ stem_length stem.samples
long_enough i stem from [] v le c = omega arith
long_enough i stem from (g ∷ gs) v le c =
    let low = allowed_low i stem g v c.1 in
    let high : end_of i g ≤ stem_length stem.samples = end_within i stem g c.1 in
    omega (arith, (long_enough i stem (end_of i g) gs v high c.2))

-- a cutting has at most 80 logs
pub few_logs : (i : InstructionParts) (stem : StemParts) (gs : List Log) → IsInstruction i → IsStem stem
    → IsCutFrom (IsAllowed i stem) (end_of i) 0 gs → length gs ≤ 80
few_logs i stem gs v s c = grind (arith, long_enough)

is_class_same : (c d : Class) → is_class c d ≡ true → c ≡ d
is_class_same c d e = grind (arith, and_parts, eqb-true)

is_class_itself : (c : Class) → is_class c c ≡ true
is_class_itself c = grind (arith, and_from, eq-eqb)

-- classes are compared by their places
pub place_tells : (i : InstructionParts) (c d : Class) → IsClass i c → IsClass i d
    → (index_of i d == index_of i c) ≡ is_class c d
place_tells i c d k l =
    grind (arith, cases_eq, eq-eqb, ne_eqb, is_class_itself, false_from_ne_true, is_class_same, (one_place i d c l k))

-- a class's logs are counted by their places
pub tallied : (i : InstructionParts) (c : Class) (stem : StemParts) (from : ℕ) (gs : List Log) → IsInstruction i
    → IsClass i c → IsCutFrom (IsAllowed i stem) (end_of i) from gs
    → count_by (λ g. class_place i stem g == index_of i c) gs ≡ class_logs i c stem gs
tallied i c stem from [] v k cut = refl
tallied i c stem from (g ∷ gs) v k cut =
    let test : (class_place i stem g == index_of i c) ≡ is_class c (class_of i stem g) =
    search (rules, place_tells, class_is_class) in
    let rest = tallied i c stem (end_of i g) gs v k cut.2 in
    sum_by-cons (λ x. cond (class_place i stem x == index_of i c) 1 0) g gs
    ∙ (λ j. cond (test j) 1 0 + rest j)
    ∙ sym (sum_by-cons (λ x. cond (is_class c (class_of i stem x)) 1 0) g gs)

one_log : (i : InstructionParts) (c : Class) (stem : StemParts) (g : Log)
    → cond (is_class c (class_of i stem g)) 1 0 ≤ cond (g.assortment == c.assortment) 1 0
one_log i c stem g = grind (arith, is_class_same, class_of_assortment, eq-eqb)

-- a class's logs are of its assortment
pub class_logs-le : (i : InstructionParts) (c : Class) (stem : StemParts) (gs : List Log)
    → class_logs i c stem gs ≤ assortment_logs c.assortment gs
class_logs-le i c stem gs = grind (arith, sum_by-le-sum_by, one_log)

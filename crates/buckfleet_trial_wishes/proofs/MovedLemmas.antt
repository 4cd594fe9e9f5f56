-- A target that is moved stays within what it may be, and so do all targets of its assortment together.
use Rattle.std.proofs.Common.{◌≡◌, ◌≢◌, ℕ, ◌+◌, ◌-◌, ◌*◌, ◌/◌, ◌<◌, ◌≤◌, ◌⊎◌, inl, inr, min, max, List, [], ◌∷◌, ◌++◌, All, length, map, take, get_or, set, sum, sym, ap, ◌∙◌, arith, append_assoc}
use Rattle.std.proofs.lemmas.Bool.{cases_lt}
use Rattle.std.proofs.lemmas.List.{get_or-map, get_or-set_other, get_or-set_same, get_or_past, length-map, length-set, take_more}
use Rattle.std.proofs.lemmas.List.Elements.{All-cons, All-set, All-from_get_or}
use Rattle.std.proofs.lemmas.List.Sums.{sum_by-cons, sum_by-set, get_or-le-sum_by}
use Rattle.std.proofs.lemmas.Nat.{div-add-mod'}
use Rattle.std.proofs.Math.Nat.{mul-le-mul_left, mul-le-mul_right}
use Rattle.buckfleet_trial_wishes.specs.Wishes.{far, factor, greatest, moved_part, moved_target}

-- a quotient times its divisor
times : (n d : ℕ) → n / d * d ≤ n
times n d = omega (arith, div-add-mod' n d)

-- so many times no more than a divisor
pub within : (m a n d : ℕ) → m ≤ n / d → a ≤ d → m * a ≤ n
within m a n d le low =
    let first : m * a ≤ m * d = mul-le-mul_left m low in
    let second : m * d ≤ n / d * d = mul-le-mul_right d le in
    omega (arith, first, second, times n d)

one_or : (x : ℕ) → (max x 1 ≡ 1) ⊎ (max x 1 ≡ x)
one_or x = grind arith

pub greatest_at : (ts : List ℕ) → All (λ t. t ≤ greatest ts) ts
greatest_at [] = λ k d lt. absurd (omega (arith, lt))
greatest_at (t ∷ more) =
    All-cons (λ x. x ≤ greatest (t ∷ more)) t more (omega arith)
    (λ k d lt. let low = greatest_at more k d lt in omega (arith, low))

-- something is wanted
pub greatest_some : (ts : List ℕ) → 0 < sum ts → 0 < greatest ts
greatest_some [] some = some
greatest_some (t ∷ more) some =
    let whole = sum_by-cons (λ x. x) t more in
    let cases : (0 < t) ⊎ (0 < sum more) = grind (arith, some, whole) in
    elim cases [
      | inl here ↦ omega (arith, here)
      | inr there ↦ (let low = greatest_some more there in omega (arith, low))
    ]

-- each of them multiplied is low
pub factor_low : (ts us : List ℕ) (class t : ℕ) → t ≤ 1000000 → t ≤ greatest ts → factor ts us class * t ≤ 1000000
factor_low ts us class t low le =
    let a = 1000000 / max (greatest ts) (far ts us class) in
    let b = 1000000000 / (sum ts + far ts us class) in
    elim (one_or (min a b)) [
      | inl one ↦ omega (arith, ap (λ k. k * t) one, low)
      | inr more ↦ (
          let below : min a b * t ≤ 1000000 =
          within (min a b) t 1000000 (max (greatest ts) (far ts us class)) (omega arith) (omega (arith, le)) in
          omega (arith, ap (λ k. k * t) more, below))
    ]

-- and so are all together
pub factor_sum : (ts us : List ℕ) (class : ℕ) → sum ts ≤ 1000000000 → factor ts us class * sum ts ≤ 1000000000
factor_sum ts us class low =
    let a = 1000000 / max (greatest ts) (far ts us class) in
    let b = 1000000000 / (sum ts + far ts us class) in
    elim (one_or (min a b)) [
      | inl one ↦ omega (arith, ap (λ k. k * sum ts) one, low)
      | inr more ↦ (
          let below : min a b * sum ts ≤ 1000000000 =
          within (min a b) (sum ts) 1000000000 (sum ts + far ts us class) (omega arith) (omega arith) in
          omega (arith, ap (λ k. k * sum ts) more, below))
    ]

pub factor_small : (ts us : List ℕ) (class : ℕ) → 0 < greatest ts → factor ts us class ≤ 1000000
factor_small ts us class some =
    let a = 1000000 / max (greatest ts) (far ts us class) in
    let one : 1 ≤ max (greatest ts) (far ts us class) = omega (arith, some) in
    let low = within a 1 1000000 (max (greatest ts) (far ts us class)) (omega arith) one in
    omega (arith, low)

pub sum_times : (k : ℕ) (ts : List ℕ) → sum (map (λ t. k * t) ts) ≡ k * sum ts
sum_times k [] = omega arith
sum_times k (t ∷ more) =
    let rest = sum_times k more in
    let left = sum_by-cons (λ x. x) (k * t) (map (λ t. k * t) more) in
    let right : k * sum (t ∷ more) ≡ k * (t + sum more) = ap (λ n. k * n) (sum_by-cons (λ x. x) t more) in
    omega (arith, rest, left, right)

-- with one moved, together
pub moved_sum : (ts us : List ℕ) (class : ℕ) → class < length ts → sum ts ≤ 1000000000
    → sum (moved_part ts us class) ≤ 1000000000
moved_sum ts us class lt low =
    let k = factor ts us class in
    let all = map (λ t. k * t) ts in
    let moved = moved_target ts us class in
    let here : get_or all class 0 ≡ k * get_or ts class 0 = get_or-map (λ t. k * t) ts class 0 0 lt in
    let changed : sum (set all class moved) + get_or all class 0 ≡ sum all + moved =
    sum_by-set (λ x. x) all class moved 0 (omega (arith, lt, length-map ts (λ t. k * t))) in
    let total = sum_times k ts in
    let part : get_or ts class 0 ≤ sum ts = get_or-le-sum_by (λ x. x) ts class 0 lt in
    let others : k * (sum ts - get_or ts class 0) + k * get_or ts class 0 ≡ k * sum ts =
    (let whole : sum ts - get_or ts class 0 + get_or ts class 0 ≡ sum ts = omega (arith, part) in
    let spread : k * (sum ts - get_or ts class 0 + get_or ts class 0)
    ≡ k * (sum ts - get_or ts class 0) + k * get_or ts class 0 = omega arith in
    sym spread ∙ ap (λ n. k * n) whole) in
    let high : k * sum ts ≤ 1000000000 = factor_sum ts us class low in
    let room : moved ≤ 1000000000 - k * (sum ts - get_or ts class 0) = omega arith in
    omega (arith, here, changed, total, others, high, room)

-- and each
pub moved_low : (ts us : List ℕ) (class : ℕ) → All (λ t. t ≤ 1000000) ts
    → All (λ t. t ≤ 1000000) (moved_part ts us class)
moved_low ts us class low =
    let k = factor ts us class in
    let each : All (λ t. t ≤ 1000000) (map (λ t. k * t) ts) =
    All-from_get_or (λ t. t ≤ 1000000) (map (λ t. k * t) ts) 0
    (λ i lt. let within_ : i < length ts = omega (arith, lt, length-map ts (λ t. k * t)) in
    let is = get_or-map (λ t. k * t) ts i 0 0 within_ in
    let one = factor_low ts us class (get_or ts i 0) (low i 0 within_) (greatest_at ts i 0 within_) in
    omega (arith, is, one)) in
    All-set (λ t. t ≤ 1000000) (map (λ t. k * t) ts) class (moved_target ts us class) (omega arith) each

-- a target is a part of all
pub target_le : (ts : List ℕ) (class : ℕ) → get_or ts class 0 ≤ sum ts
target_le ts class = elim (cases_lt class (length ts)) [
  | inl lt ↦ get_or-le-sum_by (λ x. x) ts class 0 lt
  | inr past ↦ omega (arith, get_or_past ts class 0 past)
]

pub div_le : (n d : ℕ) → 0 < d → n / d ≤ n
div_le n d some =
    let grown : n / d * 1 ≤ n / d * d = mul-le-mul_left (n / d) some in
    omega (arith, grown, times n d)

-- the targets with one moved, place by place
pub moved_length : (ts us : List ℕ) (class : ℕ) → length (moved_part ts us class) ≡ length ts
moved_length ts us class =
    length-set (map (λ t. factor ts us class * t) ts) class (moved_target ts us class)
    ∙ length-map ts (λ t. factor ts us class * t)

pub moved_here : (ts us : List ℕ) (class i : ℕ) → i < length ts → i ≡ class
    → get_or (moved_part ts us class) i 0 ≡ moved_target ts us class
moved_here ts us class i lt same =
    let all = map (λ t. factor ts us class * t) ts in
    let within_ : class < length all = omega (arith, lt, same, length-map ts (λ t. factor ts us class * t)) in
    ap (λ k. get_or (moved_part ts us class) k 0) same
    ∙ get_or-set_same all class (moved_target ts us class) 0 within_

pub moved_elsewhere : (ts us : List ℕ) (class i : ℕ) → i < length ts → i ≢ class
    → get_or (moved_part ts us class) i 0 ≡ factor ts us class * get_or ts i 0
moved_elsewhere ts us class i lt other =
    get_or-set_other (map (λ t. factor ts us class * t) ts) class i (moved_target ts us class) 0 other
    ∙ get_or-map (λ t. factor ts us class * t) ts i 0 0 lt

-- the next one
pub moved_next : (ts us : List ℕ) (class i x : ℕ) (old mid new : List ℕ) → i < length ts
    → x ≡ get_or (moved_part ts us class) i 0
    → mid ≡ old ++ take i (moved_part ts us class) → new ≡ mid ++ x ∷ []
    → new ≡ old ++ take (i + 1) (moved_part ts us class)
moved_next ts us class i x old mid new lt is so_far put =
    let all = moved_part ts us class in
    let more : take (i + 1) all ≡ take i all ++ get_or all i 0 ∷ [] =
    take_more all i 0 (omega (arith, lt, moved_length ts us class)) in
    put ∙ ap (λ l. l ++ x ∷ []) so_far ∙ append_assoc old (take i all) (x ∷ [])
    ∙ ap (λ y. old ++ (take i all ++ y ∷ [])) is ∙ ap (λ l. old ++ l) (sym more)

-- the greatest of one more
greatest_push : (ts : List ℕ) (t : ℕ) → greatest (ts ++ t ∷ []) ≡ max (greatest ts) t
greatest_push [] t = omega arith
greatest_push (x ∷ more) t = let rest = greatest_push more t in omega (arith, rest)

pub greatest_more : (ts : List ℕ) (k : ℕ) → k < length ts
    → greatest (take (k + 1) ts) ≡ max (greatest (take k ts)) (get_or ts k 0)
greatest_more ts k lt = ap greatest (take_more ts k 0 lt) ∙ greatest_push (take k ts) (get_or ts k 0)

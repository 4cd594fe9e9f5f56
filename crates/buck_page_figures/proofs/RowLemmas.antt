-- Numbers that stand row by row, and the degrees of their rows.
use Rattle.std.proofs.Common.{◌≡◌, ℕ, zero, suc, ◌+◌, ◌-◌, ◌*◌, ◌/◌, ◌<◌, ◌≤◌, ◌==◌, List, [], ◌∷◌, map, take, drop, length, min, refl, sym, ap, ◌∙◌, arith, cond, get_or, length-drop, length-take-le, rules, eq-eqb}
use Rattle.std.specs.Prelude.{Bool, true, false, ◌≢◌, sum, sum_by, slice_get, Option, Some, None}
use Rattle.std.proofs.Math.Nat.{add-mul, div-mul-le_self, mul-le-mul, mul-le-mul_left, mul-le-mul_right}
use Rattle.std.proofs.lemmas.Nat.{le-div}
use Rattle.std.proofs.lemmas.Bool.{ne_eqb}
use Rattle.std.proofs.lemmas.Option.{same_Some, none-some, slice_get_within, get_or_from_slice_get}
use Rattle.std.proofs.lemmas.Bool.Decides.{nat_tests}
use Rattle.std.specs.List.{zip}
use Rattle.std.proofs.lemmas.List.Sums.{sum_by-cons, sum_by-take-drop, sum_by_more_le}
use Rattle.buck_apt_instruction.specs.Instruction.{InstructionParts, AssortmentParts, classes, classes_of, classes_before}
use Rattle.buck_book_postings.specs.Degree.{degree_of, shared_of, part_of}
use Rattle.buck_book_postings.proofs.Degrees.{shared_low, degree_low}
use Rattle.buck_page_figures.specs.Degrees.{rows_of, diameter_degree_of, weighed, counted}

-- behind the first row stand all the others
pub row_less : (rows columns : ℕ) (ns : List ℕ) → length ns ≡ suc rows * columns → length (drop columns ns) ≡ rows * columns
row_less rows columns ns long = omega (arith, long, length-drop columns ns)

-- all rows together are all
pub sum_rows : (rows columns : ℕ) (ns : List ℕ) → length ns ≡ rows * columns → sum (map sum (rows_of rows columns ns)) ≡ sum ns
sum_rows zero columns [] long = refl
sum_rows zero columns (n ∷ ns) long = absurd (omega (arith, long))
sum_rows (suc rows) columns ns long =
    sum_by-cons (λ n. n) (sum (take columns ns)) (map sum (rows_of rows columns (drop columns ns)))
    ∙ ap (λ n. sum (take columns ns) + n) (sum_rows rows columns (drop columns ns) (row_less rows columns ns long))
    ∙ sum_by-take-drop (λ n. n) ns columns

-- one class more
shared-cons : (wanted cut t n : ℕ) (ts ns : List ℕ)
    → shared_of wanted cut (t ∷ ts) (n ∷ ns) ≡ min (t * cut) (n * wanted) + shared_of wanted cut ts ns
shared-cons wanted cut t n ts ns = sum_by-cons (λ (p : ℕ × ℕ). min (p.0 * cut) (p.1 * wanted)) (t, n) (zip ts ns)

shared-nil : (wanted cut : ℕ) (ts : List ℕ) → shared_of wanted cut ts [] ≡ 0
shared-nil wanted cut [] = refl
shared-nil wanted cut (t ∷ ts) = refl

-- classes that are taken apart
shared-apart : (wanted cut columns : ℕ) (ts ns : List ℕ)
    → shared_of wanted cut ts ns
    ≡ shared_of wanted cut (take columns ts) (take columns ns) + shared_of wanted cut (drop columns ts) (drop columns ns)
shared-apart wanted cut zero ts ns = omega arith
shared-apart wanted cut (suc columns) [] ns = omega arith
shared-apart wanted cut (suc columns) (t ∷ ts) [] = omega (arith, shared-nil wanted cut (take columns ts), shared-nil wanted cut (drop columns ts))
shared-apart wanted cut (suc columns) (t ∷ ts) (n ∷ ns) =
    omega (
      arith,
      shared-cons wanted cut t n ts ns,
      shared-cons wanted cut t n (take columns ts) (take columns ns),
      shared-apart wanted cut columns ts ns,
    )

-- all classes together have at most all logs
shared_low' : (wanted cut : ℕ) (ts ns : List ℕ) → shared_of wanted cut ts ns ≤ sum ns * wanted
shared_low' wanted cut [] ns = omega arith
shared_low' wanted cut (t ∷ ts) [] = omega arith
shared_low' wanted cut (t ∷ ts) (n ∷ ns) =
    let whole : sum (n ∷ ns) * wanted ≡ n * wanted + sum ns * wanted = search (rules, sum_by-cons, add-mul) in
    omega (arith, whole, shared-cons wanted cut t n ts ns, shared_low' wanted cut ts ns)

-- the classes of a row share no more than the row as one class
pub shared_rows : (wanted cut rows columns : ℕ) (ts ns : List ℕ)
    → length ts ≡ rows * columns → length ns ≡ rows * columns
    → shared_of wanted cut ts ns
    ≤ shared_of wanted cut (map sum (rows_of rows columns ts)) (map sum (rows_of rows columns ns))
shared_rows wanted cut zero columns [] ns lt ln = omega arith
shared_rows wanted cut zero columns (t ∷ ts) ns lt ln = absurd (omega (arith, lt))
shared_rows wanted cut (suc rows) columns ts ns lt ln =
    omega (
      arith,
      shared-apart wanted cut columns ts ns,
      shared_low wanted cut (take columns ts) (take columns ns),
      shared_low' wanted cut (take columns ts) (take columns ns),
      shared-cons wanted cut (sum (take columns ts)) (sum (take columns ns))
          (map sum (rows_of rows columns (drop columns ts))) (map sum (rows_of rows columns (drop columns ns))),
      shared_rows wanted cut rows columns (drop columns ts) (drop columns ns) (row_less rows columns ts lt)
          (row_less rows columns ns ln),
    )

-- a degree that is there
there : (none : Bool) (value degree : ℕ) → cond none None (Some value) ≡ Some degree → (none ≡ false) × (degree ≡ value)
there true value degree is = absurd (none-some degree is)
there false value degree is = (refl, sym (same_Some value degree is))

degree_there : (whole shared degree : ℕ) → cond (whole == 0) None (Some (shared * 10000 / whole)) ≡ Some degree
    → (0 < whole) × (degree ≡ shared * 10000 / whole)
degree_there whole shared degree is =
    let t = there (whole == 0) (shared * 10000 / whole) degree is in
    (grind (arith, nat_tests, t.0), t.1)

div_more : (whole less more : ℕ) → 0 < whole → less ≤ more → less * 10000 / whole ≤ more * 10000 / whole
div_more whole less more some le =
    le-div (less * 10000 / whole) (more * 10000) whole some (omega (arith, div-mul-le_self (less * 10000) whole))

-- the degree of diameters, over the sums of all
pub diameter_is : (rows columns : ℕ) (ts ns : List ℕ) → length ts ≡ rows * columns → length ns ≡ rows * columns
    → diameter_degree_of rows columns ts ns
    ≡ cond
    (sum ts * sum ns == 0)
    None
    (Some (shared_of (sum ts) (sum ns) (map sum (rows_of rows columns ts)) (map sum (rows_of rows columns ns)) * 10000 / (sum ts * sum ns)))
diameter_is rows columns ts ns lt ln = rw (sum_rows rows columns ts lt, sum_rows rows columns ns ln) refl

-- a degree is never above that of its diameters
pub no_degree_above : (rows columns : ℕ) (ts ns : List ℕ) (degree diameter : ℕ)
    → length ts ≡ rows * columns → length ns ≡ rows * columns
    → degree_of ts ns ≡ Some degree → diameter_degree_of rows columns ts ns ≡ Some diameter
    → degree ≤ diameter
no_degree_above rows columns ts ns degree diameter lt ln whole rowwise =
    let w = degree_there (sum ts * sum ns) (shared_of (sum ts) (sum ns) ts ns) degree whole in
    let all = shared_of (sum ts) (sum ns) (map sum (rows_of rows columns ts)) (map sum (rows_of rows columns ns)) in
    let d = degree_there (sum ts * sum ns) all diameter (sym (diameter_is rows columns ts ns lt ln) ∙ rowwise) in
    rw (w.1, d.1)
    (div_more (sum ts * sum ns) (shared_of (sum ts) (sum ns) ts ns) all w.0
    (shared_rows (sum ts) (sum ns) rows columns ts ns lt ln))

-- behind as many rows, and one more
pub row_more : (rows k columns : ℕ) (ns rest : List ℕ) → k < rows → length ns + k * columns ≡ rows * columns
    → rest ≡ drop columns ns
    → length rest + (k + 1) * columns ≡ rows * columns
row_more rows k columns ns rest lt long is =
    let le : (k + 1) * columns ≤ rows * columns = mul-le-mul_right columns (omega (arith, lt)) in
    omega (arith, long, ap length is, length-drop columns ns, le)

row_next : (rows k : ℕ) → k < rows → rows - k ≡ suc (rows - (k + 1))
row_next rows k lt = omega (arith, lt)

row_last : (rows k : ℕ) → rows ≤ k → rows - k ≡ 0
row_last rows k le = omega (arith, le)

-- the rows from one on, with the sums of each
abbrev pub diameters_from : ℕ → ℕ → ℕ → ℕ → ℕ → List ℕ → List ℕ → ℕ
diameters_from wanted cut rows k columns ts ns =
    shared_of wanted cut (map sum (rows_of (rows - k) columns ts)) (map sum (rows_of (rows - k) columns ns))

pub diameters_more : (wanted cut rows k columns all more whole : ℕ) (ts ns ts' ns' : List ℕ) → k < rows
    → ts' ≡ drop columns ts → ns' ≡ drop columns ns
    → more ≡ min (sum (take columns ts) * cut) (sum (take columns ns) * wanted)
    → all + diameters_from wanted cut rows k columns ts ns ≡ whole
    → all + more + diameters_from wanted cut rows (k + 1) columns ts' ns' ≡ whole
diameters_more wanted cut rows k columns all more whole ts ns ts' ns' lt rest_ts rest_ns is before =
    let now : diameters_from wanted cut rows k columns ts ns
    ≡ min (sum (take columns ts) * cut) (sum (take columns ns) * wanted)
    + diameters_from wanted cut rows (k + 1) columns (drop columns ts) (drop columns ns) =
    rw (row_next rows k lt)
    (shared-cons wanted cut (sum (take columns ts)) (sum (take columns ns))
    (map sum (rows_of (rows - (k + 1)) columns (drop columns ts))) (map sum (rows_of (rows - (k + 1)) columns (drop columns ns)))) in
    rw (rest_ts, rest_ns) (omega (arith, now, is, before))

-- behind the last row
pub diameters_end : (wanted cut rows k columns all whole : ℕ) (ts ns : List ℕ) → rows ≤ k
    → all + diameters_from wanted cut rows k columns ts ns ≡ whole
    → all ≡ whole
diameters_end wanted cut rows k columns all whole ts ns le before =
    let none : diameters_from wanted cut rows k columns ts ns ≡ 0 = rw (row_last rows k le) refl in
    omega (arith, none, before)

pub diameter_none : (rows columns wanted cut : ℕ) (ts ns : List ℕ) → length ts ≡ rows * columns → length ns ≡ rows * columns
    → wanted ≡ sum ts → cut ≡ sum ns → wanted * cut ≡ 0
    → None ≡ diameter_degree_of rows columns ts ns
diameter_none rows columns wanted cut ts ns lt ln w c none =
    let whole : (sum ts * sum ns == 0) ≡ true = rw (← w, ← c) (eq-eqb (wanted * cut) 0 none) in
    sym (diameter_is rows columns ts ns lt ln ∙ rw whole refl)

pub diameter_some : (rows columns wanted cut all : ℕ) (ts ns : List ℕ) → length ts ≡ rows * columns → length ns ≡ rows * columns
    → wanted ≡ sum ts → cut ≡ sum ns → wanted * cut ≢ 0
    → all ≡ shared_of wanted cut (map sum (rows_of rows columns ts)) (map sum (rows_of rows columns ns))
    → (Some (all * 10000 / (wanted * cut)) ≡ diameter_degree_of rows columns ts ns) × (all * 10000 / (wanted * cut) ≤ 10000)
diameter_some rows columns wanted cut all ts ns lt ln w c some is =
    let rt = map sum (rows_of rows columns ts) in
    let rn = map sum (rows_of rows columns ns) in
    let whole : (sum ts * sum ns == 0) ≡ false = rw (← w, ← c) (ne_eqb (wanted * cut) 0 some) in (
      sym (diameter_is rows columns ts ns lt ln ∙ rw whole (rw (← w, ← c, is) refl)),
      rw (is, w, c, ← sum_rows rows columns ts lt, ← sum_rows rows columns ns ln) (degree_low rt rn),
    )

-- the logs that count, and their degrees, of the rows from one on
row-cons : (f : List ℕ × List ℕ → ℕ) (rows k columns : ℕ) (ts ns : List ℕ) → k < rows
    → sum_by f (zip (rows_of (rows - k) columns ts) (rows_of (rows - k) columns ns))
    ≡ f (take columns ts, take columns ns)
    + sum_by f (zip (rows_of (rows - (k + 1)) columns (drop columns ts)) (rows_of (rows - (k + 1)) columns (drop columns ns)))
row-cons f rows k columns ts ns lt =
    rw (row_next rows k lt)
    (sum_by-cons f (take columns ts, take columns ns)
    (zip (rows_of (rows - (k + 1)) columns (drop columns ts)) (rows_of (rows - (k + 1)) columns (drop columns ns))))

pub lengths_more : (f : List ℕ × List ℕ → ℕ) (rows k columns all more whole : ℕ) (ts ns ts' ns' : List ℕ) → k < rows
    → ts' ≡ drop columns ts → ns' ≡ drop columns ns
    → more ≡ all + f (take columns ts, take columns ns)
    → all + sum_by f (zip (rows_of (rows - k) columns ts) (rows_of (rows - k) columns ns)) ≡ whole
    → more + sum_by f (zip (rows_of (rows - (k + 1)) columns ts') (rows_of (rows - (k + 1)) columns ns')) ≡ whole
lengths_more f rows k columns all more whole ts ns ts' ns' lt rest_ts rest_ns is before =
    rw (rest_ts, rest_ns) (omega (arith, row-cons f rows k columns ts ns lt, is, before))

-- a row whose logs count with its degree, and one whose logs don't
pub row_counts : (d : Option ℕ) (x n all logs all' logs' : ℕ) → d ≡ Some x → x ≤ 10000 → all' ≡ all + n * x → logs' ≡ logs + n
    → all ≤ 10000 * logs
    → (all' ≡ all + weighed d n) × (logs' ≡ logs + counted d n) × (all' ≤ 10000 * logs')
row_counts d x n all logs all' logs' is low more_all more_logs before =
    rw is (more_all, more_logs, omega (arith, more_all, more_logs, before, mul-le-mul_left n low))

pub row_is_left_out : (d : Option ℕ) (n all logs all' logs' : ℕ) → d ≡ None → all' ≡ all → logs' ≡ logs
    → all ≤ 10000 * logs
    → (all' ≡ all + weighed d n) × (logs' ≡ logs + counted d n) × (all' ≤ 10000 * logs')
row_is_left_out d n all logs all' logs' is same_all same_logs before =
    rw is (omega (arith, same_all), omega (arith, same_logs), omega (arith, same_all, same_logs, before))

-- the numbers of an assortment are as many as its classes
pub length-part : (i : InstructionParts) (at : ℕ) (a : AssortmentParts) (ns : List ℕ) → slice_get i.assortments at ≡ Some a
    → length ns ≡ classes i
    → length (part_of i a at ns) ≡ classes_of a
length-part i at a ns exists long =
    let lt : at < length i.assortments = slice_get_within i.assortments at a exists in
    let whole = sum_by_more_le classes_of i.assortments at a lt in
    let same : classes_of (get_or i.assortments at a) ≡ classes_of a =
    ap classes_of (get_or_from_slice_get i.assortments at a a exists) in
    length-take-le (classes_of a) (drop (classes_before i at) ns)
    (omega (arith, long, whole, same, length-drop (classes_before i at) ns))

-- what a degree is made of, and that it is at most 10,000
pub ruleset degree_whole = (shared_low, degree_low, mul-le-mul)

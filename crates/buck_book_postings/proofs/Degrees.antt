-- Sums over the classes of an assortment.
use Rattle.buck_book_postings.proofs.Words.{◌≡◌, ℕ, ◌+◌, ◌*◌, ◌/◌, ◌<◌, ◌≤◌, List, [], ◌∷◌, length, sum, get_or, arith, rules, sum_by-cons, min-le_left, add-mul, mul-le-mul, div-le_of_le-mul, slice_get, Some, slice_get_read}
use Rattle.buck_book_postings.proofs.Words.{AssortmentParts, shared_of}

-- all classes together have at most the whole
pub shared_low : (wanted cut : ℕ) (targets counts : List ℕ) → shared_of wanted cut targets counts ≤ sum targets * cut
shared_low wanted cut [] counts = omega arith
shared_low wanted cut (t ∷ ts) [] = omega arith
shared_low wanted cut (t ∷ ts) (n ∷ ns) =
    let whole : sum (t ∷ ts) * cut ≡ t * cut + sum ts * cut = search (rules, sum_by-cons, add-mul) in
    search (rules, min-le_left, sum_by-cons, (shared_low wanted cut ts ns))

-- so the degree is at most 10,000
pub degree_low : (targets counts : List ℕ)
    → shared_of (sum targets) (sum counts) targets counts * 10000 / (sum targets * sum counts) ≤ 10000
degree_low targets counts = grind (arith, div-le_of_le-mul, mul-le-mul, shared_low)

-- what was read of a list of assortments
pub stands : (xs ys : List AssortmentParts) (at : ℕ) (a : AssortmentParts) → xs ≡ ys → at < length ys
    → a ≡ get_or xs at a → slice_get ys at ≡ Some a
stands xs ys at a same lt is = grind (arith, slice_get_read)

use Rattle.buck_book_postings.proofs.Words.{ℕ, ◌*◌, ◌≤◌, arith, min, min-le_left, mul-le-mul, zip, take_all, sum_by_more, length-zip, get_or-zip}
use Rattle.buck_book_postings.proofs.degree.shared.Goals as goal

pub loop-i-preserved : goal.loop-i-preserved
loop-i-preserved c =
    let p = c.args in
    let more = sum_by_more (λ (q : ℕ × ℕ). min (q.0 * p.cut) (q.1 * p.wanted)) (zip p.targets.now p.counts.now) c.loop-i.i (0, 0) in
    grind (arith, more, length-zip, get_or-zip, mul-le-mul, min-le_left)

pub returns : goal.returns
returns c = grind (arith, take_all, length-zip)

pub overflow_mul-by_target : goal.overflow_mul-by_target
overflow_mul-by_target c =
    let low : c.from.result ≤ 4294967296 = omega (arith, c.type_inv.targets c.loop-i.i) in
    omega (arith, mul-le-mul low c.requires.low.1)

pub overflow_mul-by_count : goal.overflow_mul-by_count
overflow_mul-by_count c =
    let low : c.from-in-loop-i.result ≤ 4294967296 = omega (arith, c.type_inv.counts c.loop-i.i) in
    omega (arith, mul-le-mul low c.requires.low.0)

pub overflow_add-all : goal.overflow_add-all
overflow_add-all c =
    let low : c.from.result ≤ 4294967296 = omega (arith, c.type_inv.targets c.loop-i.i) in
    omega (arith, mul-le-mul low c.requires.low.1)

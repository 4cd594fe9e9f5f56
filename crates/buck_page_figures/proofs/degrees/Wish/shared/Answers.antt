use Rattle.std.proofs.Common.{ℕ, ◌*◌, arith, min}
use Rattle.std.proofs.Math.Nat.{min-le_left}
use Rattle.std.specs.List.{zip}
use Rattle.std.proofs.lemmas.List.Sums.{sum_by_more}
use Rattle.std.proofs.lemmas.Slice.Zip.{length-zip, get_or-zip}
use Rattle.buck_book_postings.proofs.Words.{mul-le-mul, take_all}
use Rattle.buck_page_figures.proofs.degrees.Wish.shared.Goals as goal

pub loop-i-preserved : goal.loop-i-preserved
loop-i-preserved c =
    let p = c.args in
    let more = sum_by_more (λ (q : ℕ × ℕ). min (q.0 * p.cut) (q.1 * p.wanted)) (zip p.self.now.targets.now p.self.now.counts.now) c.loop-i.i (0, 0) in
    grind (arith, more, length-zip, get_or-zip, mul-le-mul, min-le_left)

pub returns : goal.returns
returns c = grind (arith, take_all, length-zip)

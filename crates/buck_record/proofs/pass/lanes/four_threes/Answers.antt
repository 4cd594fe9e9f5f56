use Rattle.std.proofs.Common.{ℕ, ◌+◌, ◌-◌, ◌*◌, ◌/◌, ◌%◌, ◌^◌, bit_and, get_or, refl, arith, rules, Fits, w32, IsTrue}
use Rattle.std.proofs.lemmas.Grind.{and_numeral}
use Rattle.std.proofs.lemmas.Simd.{Each1-get_or}
use Rattle.buck_record.proofs.FourLemmas.{own, same, both, greater, greatest, three}
use Rattle.buck_record.proofs.pass.lanes.four_threes.Goals as goal

pub returns : goal.returns
returns c = λ i h.
    let passed : IsTrue c.are_digits.result = search rules in
    let shift = λ (x y : ℕ). x / 2 ^ y in
    let times = λ (x y : ℕ). x * y % 4294967296 in
    let plus = λ (x y : ℕ). (x + y) % 4294967296 in
    let digits =
    both (own c.args.groups c.fits-groups.0) (same 540028976) (λ x y. (x + (4294967296 - y)) % 4294967296) in
    let a = both digits (same 255) bit_and in
    let rest = both digits (same 8) shift in
    let b = both rest (same 255) bit_and in
    let t = both rest (same 8) shift in
    let v = both (both (both a (same 100) times) (both b (same 10) times) plus) t plus in
    rw (v.lanes i h)
    (three (get_or c.args.groups i 0) _ _ _ _
    ((Each1-get_or (Fits w32) c.args.groups i 0 (omega (arith, c.fits-groups.0)) c.fits-groups.1).fits) refl
    (and_numeral _ 254 refl) (and_numeral _ 254 refl) refl
    (greatest _ _ _ (rw ((greater (greater a b) t).lanes i h) at (c.are_digits.ensures passed i h))))

-- How large the numbers of a class that lacks logs may be.
use Rattle.std.proofs.Common.{ℕ, ◌*◌, ◌<◌, ◌≤◌, ◌^◌, arith}
use Rattle.std.proofs.Math.Nat.{mul-le-mul}

-- a number of logs or targets, times all of an assortment
pub low_product : (one all : ℕ) → one < 2 ^ 32 → all ≤ 1024 * 2 ^ 32 → one * all < 2 ^ 80
low_product one all small few =
    let le : one ≤ 2 ^ 32 = omega (arith, small) in
    omega (arith, mul-le-mul le few)

-- all targets times all logs
pub whole_product : (targets counts : ℕ) → targets ≤ 1024 * 2 ^ 32 → counts ≤ 1024 * 2 ^ 32 → 0 < targets → 0 < counts
    → (0 < targets * counts) × (targets * counts < 2 ^ 125)
whole_product targets counts few_targets few_counts some_targets some_counts = (
  omega (arith, mul-le-mul some_targets some_counts),
  omega (arith, mul-le-mul few_targets few_counts),
)

-- a gap, times all targets of another assortment
pub far_product : (gap targets : ℕ) → gap < 2 ^ 80 → targets ≤ 1024 * 2 ^ 32 → gap * targets < 2 ^ 128
far_product gap targets low few =
    let le : gap ≤ 2 ^ 80 = omega (arith, low) in
    omega (arith, mul-le-mul le few)

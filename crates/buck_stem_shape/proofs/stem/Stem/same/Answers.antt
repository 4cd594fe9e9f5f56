use Rattle.std.proofs.Common.{◌≡◌, ◌==◌, ◌&&◌, ℕ, arith, rules}
use Rattle.std.specs.Bool.{Decides}
use Rattle.std.proofs.lemmas.Bool.Decides.{nat_tests}
use Rattle.std.proofs.lemmas.Slice.Eq.{slice_eq-Decides}
use Rattle.buck_stem_shape.proofs.stem.Stem.same.Goals as goal

pairs : (a b : ℕ × ℕ) → Decides (a.0 == b.0 && a.1 == b.1) (a ≡ b)
pairs a b = grind (arith, nat_tests)

pub returns : goal.returns
returns c =
    let zones = slice_eq-Decides pairs c.zones.result.now c.zones-2.result.now c.eq.result c.eq.ensures in
    search (rules, zones)

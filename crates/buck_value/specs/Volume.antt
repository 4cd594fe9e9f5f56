-- Volume and worth.
use Rattle.std.specs.Prelude.{ℕ, ◌*◌, ◌/◌, nat_eq, if◌then◌else◌}

-- cubic centimetres of the cylinder of a top diameter and a length in millimetres, rounded down; pi / 4 is 0.7854
abbrev pub volume : ℕ → ℕ → ℕ
volume d l = d * d * l * 7854 / 10000000

-- the worth of a piece in millionths of the price unit: kind 1 is priced per cubic metre, which is 1,000,000 cubic
-- centimetres, kind 2 per piece
abbrev pub worth_at : ℕ → ℕ → ℕ → ℕ
worth_at kind price cubic = if nat_eq kind 1 then price * cubic else price * 1000000

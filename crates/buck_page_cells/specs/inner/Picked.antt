-- One of two changes, of which some may not be there.
use Rattle.std.specs.Prelude.{◌+◌, nat_lt, cond, Option, Some, None}
use Rattle.buck_page_cells.specs.declared.change.Change.{Change}

-- the lesser of two changes, or the only one, and the greater; of equals the first
abbrev pub lesser : Option Change → Option Change → Option Change
lesser None other = other
lesser (Some one) None = Some one
lesser (Some one) (Some other) = cond (nat_lt (other.to + one.from) (one.to + other.from)) (Some other) (Some one)

abbrev pub greater : Option Change → Option Change → Option Change
greater None other = other
greater (Some one) None = Some one
greater (Some one) (Some other) = cond (nat_lt (one.to + other.from) (other.to + one.from)) (Some other) (Some one)

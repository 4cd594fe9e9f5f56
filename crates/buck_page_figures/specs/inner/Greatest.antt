-- The first of the greatest of some numbers, and how great it is.
use Rattle.std.specs.Prelude.{◌≡◌, ℕ, List, slice_index, Option, Some, None}
use Rattle.buck_page_figures.specs.Greatest.{IsFirstGreatest}
use Rattle.buck_page_figures.specs.declared.greatest.Greatest.{Greatest}

-- how great the number at a place is; 0 if there is none
abbrev pub IsSize : List ℕ → Option ℕ → ℕ → Type 0
IsSize ns None size = size ≡ 0
IsSize ns (Some at) size = size ≡ slice_index ns at

pub record IsGreatest (ns : List ℕ) (g : Greatest) : Type 0 where
  pub first : IsFirstGreatest ns g.at
  pub size : IsSize ns g.at g.size

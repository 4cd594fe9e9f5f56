-- What is kept of a harvester.
use Rattle.std.specs.Prelude.{◌≡◌, ℕ, Option, Some, None}
use Rattle.std.specs.Option.{option_or}
use Rattle.buck_book_postings.specs.declared.posting.Posting.{Posting}
use Rattle.buck_book_postings.specs.declared.posting.Posting.TheVariants.{Cut, Demand}
use Rattle.buck_page_figures.specs.declared.sums.Sums.{Sums}
use Rattle.buck_page_figures.specs.declared.owns.Own.{Own}
use Rattle.buck_page_figures.specs.inner.Adding.{AreSumsTogether}

-- the place of a posting, if it is a cut
abbrev pub cut_place : ℕ → Posting → Option ℕ
cut_place at (Cut e) = Some at
cut_place at (Demand d) = None

-- what is kept of a harvester with one posting more
abbrev pub IsAdded : Option Own → ℕ → Sums → Option ℕ → Option Own → Type 0
IsAdded before harvester sums cut None = ⊥
IsAdded None harvester sums cut (Some own) = (own.harvester ≡ harvester) × (own.sums ≡ sums) × (own.first ≡ cut)
IsAdded (Some before) harvester sums cut (Some own) =
    (own.harvester ≡ harvester) × AreSumsTogether before.sums sums own.sums × (own.first ≡ option_or before.first cut)

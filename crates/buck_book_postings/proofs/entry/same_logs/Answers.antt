use Rattle.buck_book_postings.proofs.Words.{arith, and_parts, and_from, eqb-true, eq-eqb}
use Rattle.std.proofs.lemmas.Slice.Eq.{slice_eq-Decides}
use Rattle.buck_book_postings.proofs.entry.same_logs.Goals as goal

pub returns : goal.returns
returns c =
    slice_eq-Decides (λ a b. (λ e. grind (arith, and_parts, eqb-true), λ e. grind (arith, and_from, eq-eqb))) _ _ _
    c.eq.ensures

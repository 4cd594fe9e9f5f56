-- What the texts are.
use Rattle.std.proofs.Common.{◌≡◌, [], ◌∷◌, refl, codes}
use Rattle.std.specs.Fmt.{digits}
use Rattle.buck_book_postings.specs.declared.posting.Posting.TheVariants.{Demand}
use Rattle.buck_book_journal.specs.Written.{journal_text, demand_text}
use Rattle.wrong_book.specs.Texts.{second_demand}

pub text_of_a_demand : journal_text ((400 ∷ 500 ∷ []) ∷ []) (Demand second_demand ∷ [])
    ≡ codes "1 2 JRN~\n971 1 400 500~\n982 1 3 2 0~\n982 2 0 4~\n"
unfolding journal_text demand_text digits
text_of_a_demand = refl

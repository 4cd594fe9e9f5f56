-- What a lawful history of one or two postings is, and the first fault of one that isn't.
use Rattle.std.proofs.Common.{◌≡◌, ℕ, List, [], ◌∷◌, refl, subst}
use Rattle.buck_apt_instruction.specs.Instruction.{InstructionParts}
use Rattle.buck_book_postings.specs.declared.posting.Posting.{Posting}
use Rattle.buck_book_postings.specs.declared.posting.Posting.TheVariants.{Demand}
use Rattle.buck_book_postings.specs.Entry.{DemandParts}
use Rattle.buck_book_postings.specs.History.{HistoryParts, IsLawful, Follows, PricesMeet, prices_at}

abbrev pub made : InstructionParts → List (List ℕ) → List Posting → HistoryParts
made i sheets ps = record { instruction = i; sheets = sheets; postings = ps }

-- the history with its postings told
pub told : (i : InstructionParts) (sheets : List (List ℕ)) (ps qs : List Posting)
    → ps ≡ qs → IsLawful (made i sheets ps) → IsLawful (made i sheets qs)
told i sheets ps qs same lawful = subst (λ xs. IsLawful (made i sheets xs)) same lawful

pub first_follows : (i : InstructionParts) (sheets : List (List ℕ)) (x : Posting) (more : List Posting)
    → IsLawful (made i sheets (x ∷ more)) → Follows i sheets [] x
first_follows i sheets x more lawful = lawful.postings_follow 0 x refl

pub second_follows : (i : InstructionParts) (sheets : List (List ℕ)) (x y : Posting) (more : List Posting)
    → IsLawful (made i sheets (x ∷ y ∷ more)) → Follows i sheets (x ∷ []) y
second_follows i sheets x y more lawful = lawful.postings_follow 1 y refl

pub sheet_after : (i : InstructionParts) (sheets : List (List ℕ)) (d : DemandParts)
    → IsLawful (made i sheets (Demand d ∷ [])) → PricesMeet i (Demand d ∷ []) (prices_at sheets 1)
sheet_after i sheets d lawful = lawful.sheets_meet 0 (Demand d) refl refl

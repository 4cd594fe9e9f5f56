use Rattle.buck_book_postings.proofs.Alone.{to_alone, from_alone}
use Rattle.buck_book_postings.proofs.laws.lawful_of_cuts_alone.Goals as goal

pub returns : goal.returns
returns c = λ i sheets es v. (to_alone i sheets es v, from_alone i sheets es v)

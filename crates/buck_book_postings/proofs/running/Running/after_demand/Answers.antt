use Rattle.buck_book_postings.proofs.Words.{refl}
use Rattle.buck_book_postings.proofs.Told.{tells_demand}
use Rattle.buck_book_postings.proofs.running.Running.after_demand.Goals as goal

pub returns : goal.returns
returns c = λ i d s valid ps few t. tells_demand i ps _ t _ d few valid s refl refl refl refl

-- What the definition of a journal says of the bytes that the callers read.
use Rattle.std.proofs.Common.{◌≡◌, ℕ, [], ◌∷◌, Ok, Err, refl}
use Rattle.std.specs.Prelude.{codes}
use Rattle.buck_record.specs.Reading.{each_from}
use Rattle.buck_record.specs.bytes.Record.{items_of, item_of, numbers_of, number_at_most, number_of}
use Rattle.buck_record.specs.bytes.White.{trim_start, trim_end, first_word, after_word, words}
use Rattle.buck_book_postings.specs.declared.posting.Posting.{Posting}
use Rattle.buck_book_postings.specs.declared.posting.Posting.TheVariants.{Demand}
use Rattle.buck_book_journal.specs.declared.journal_fault.JournalFault.TheVariants.{Digits}
use Rattle.buck_book_journal.specs.Reading.{journal_of, journal_in, sheets_from, postings_from, posting_at, cut_at, demand_at, call_at, stem_at, item_at, worth_at, numbers_at}

pub range_before_digits : journal_of (codes "1 2 JRN~971 1 20000001 x~") ≡ Err (Digits 2)
unfolding journal_of journal_in sheets_from postings_from posting_at cut_at demand_at call_at stem_at item_at worth_at
    numbers_at items_of item_of numbers_of number_at_most number_of each_from trim_start trim_end first_word
    after_word words
range_before_digits = refl

pub later_item_first : journal_of (codes "1 2 JRN~971 1 x~971 1 20000001~") ≡ Err (Digits 2)
unfolding journal_of journal_in sheets_from postings_from posting_at cut_at demand_at call_at stem_at item_at worth_at
    numbers_at items_of item_of numbers_of number_at_most number_of each_from trim_start trim_end first_word
    after_word words
later_item_first = refl

-- a demand with no target, by a harvester's first call
abbrev pub demand_by : ℕ → Posting
demand_by harvester = Demand (record { harvester = harvester; number = 1; version = 0; targets = [] })

pub two_demands : journal_of (codes "1 2 JRN~982 1 1 1 0~982 2~982 1 2 1 0~982 2~")
    ≡ Ok (record { sheets = []; entries = demand_by 1 ∷ demand_by 2 ∷ [] })
unfolding journal_of journal_in sheets_from postings_from posting_at cut_at demand_at call_at stem_at item_at worth_at
    numbers_at items_of item_of numbers_of number_at_most number_of each_from trim_start trim_end first_word
    after_word words
two_demands = refl

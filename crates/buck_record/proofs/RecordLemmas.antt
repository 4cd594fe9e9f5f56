-- The one number of a text.
use Rattle.std.proofs.Common.{◌≡◌, ℕ, List, length, refl, arith, inl, inr}
use Rattle.std.proofs.lemmas.Bool.{cases_lt}
use Rattle.buck_record.specs.bytes.White.{trim_start, first_word, after_word, words}
use Rattle.buck_record.specs.bytes.Record.{number_at_most, number_of, only_number}
use Rattle.buck_record.proofs.WordLemmas.{words_none, words_first}
use Rattle.buck_record.proofs.NumberLemmas.{no_word}

-- the number of the first word, if no word follows
pub number_of_first : (most : ℕ) (text : List ℕ) → number_of most text
    ≡ only_number (number_at_most most (first_word (trim_start text))) (words (after_word (trim_start text)))
unfolding number_of
number_of_first most text =
    elim (cases_lt 0 (length (trim_start text))) [
      | inl some ↦ rw (words_first text some) refl
      | inr none ↦
          rw (
            words_none text (omega (arith, none)),
            no_word most (trim_start text) (λ lt. absurd (omega (arith, lt, none))),
          ) refl
    ]

pub ruleset one_word = (number_of_first, words_none, words_first)

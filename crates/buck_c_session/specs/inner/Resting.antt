-- A book that rests, without its rule.
use Rattle.std.specs.Prelude.{[], Option, Some, None}
use Rattle.buck_book_postings.specs.Book.{BookParts}
use Rattle.buck_rule.specs.declared.named.NamedRule.{NamedRule}
use Rattle.buck_c_session.specs.Kept.{KeptParts, opened}

-- the kept book of what is in a place, which is empty only while a call has the book
abbrev pub kept_of : NamedRule → Option (BookParts (Unit {0})) → KeptParts
kept_of rule (Some b) = record { rule = rule; history = b.history; capacity = b.capacity }
kept_of rule None = opened rule (record { «module» = 0; period = 0; limit = 0; assortments = [] }) 0

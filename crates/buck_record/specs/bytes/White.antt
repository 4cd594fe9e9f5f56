-- White bytes, and texts without them at their ends.
use Rattle.std.specs.Prelude.{ℕ, Bool, ◌||◌, ◌==◌, ◌-◌, List, length, take, drop, filter, nat_lt}
use Rattle.std.specs.List.{prefix_len, suffix_len, before_first, after_first, slice_split}

-- space, tab, line feed and carriage return
abbrev pub is_white : ℕ → Bool
is_white b = b == 32 || (b == 9 || (b == 10 || b == 13))

-- without whitespace at the start
unfoldable pub trim_start : List ℕ → List ℕ
trim_start bs = drop (prefix_len is_white bs) bs

-- without whitespace at the end
unfoldable pub trim_end : List ℕ → List ℕ
trim_end bs = take (length bs - suffix_len is_white bs) bs

-- the bytes without whitespace at both ends
abbrev pub trim : List ℕ → List ℕ
trim bs = trim_end (trim_start bs)

-- the bytes up to the first white one
unfoldable pub first_word : List ℕ → List ℕ
first_word bs = before_first is_white bs

-- the bytes after the first white one
unfoldable pub after_word : List ℕ → List ℕ
after_word bs = after_first is_white bs

-- there is a byte
abbrev pub is_filled : List ℕ → Bool
is_filled bs = nat_lt 0 (length bs)

-- the words between whitespace
unfoldable pub words : List ℕ → List (List ℕ)
words bs = filter is_filled (slice_split is_white bs)

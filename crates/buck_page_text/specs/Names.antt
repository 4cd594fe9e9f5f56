-- Names as a page and a table have them.
use Rattle.std.specs.Prelude.{ℕ, ◌==◌, cond, nat_lt, Bool, true, false, List, [], ◌∷◌, ◌++◌, Option, Some, None, codes}
use Rattle.std.specs.Char.{encode_utf8}
use Rattle.std.specs.Fmt.{decimal}
use Rattle.std.specs.List.{flat_map}
use Rattle.std.specs.Option.{option_map}
use Rattle.std.specs.Str.{chars, is_utf8}

-- a character on a page: what could be read as mark-up is the reference of it
abbrev pub escaped : ℕ → List ℕ
escaped c =
    cond (c == 38) (codes "&amp;")
    (cond (c == 60) (codes "&lt;")
    (cond (c == 62) (codes "&gt;")
    (cond (c == 34) (codes "&quot;")
    (cond (c == 39) (codes "&#39;")
    (encode_utf8 c)))))

-- a byte of a name that is no text: past 127 the reference of its number
abbrev pub escaped_byte : ℕ → List ℕ
escaped_byte b = cond (nat_lt 127 b) (codes "&#" ++ (decimal b ++ codes ";")) (escaped b)

-- a text on a page
abbrev pub escaped_text : List ℕ → List ℕ
escaped_text text = flat_map escaped (chars text)

-- what is no text on a page
abbrev pub escaped_bytes : List ℕ → List ℕ
escaped_bytes bytes = flat_map escaped_byte bytes

-- a name on a page
abbrev pub name_text : List ℕ → List ℕ
name_text name = cond (is_utf8 name) (escaped_text name) (escaped_bytes name)

-- a byte of a name in a field: a quote stands twice
abbrev pub in_quotes : ℕ → List ℕ
in_quotes b = cond (b == 34) (34 ∷ 34 ∷ []) (b ∷ [])

-- a name as a field
abbrev pub quoted : List ℕ → List ℕ
quoted name = 34 ∷ (flat_map in_quotes name ++ (34 ∷ []))

-- one byte more before what a field says
abbrev pub with_byte : ℕ → Option (List ℕ × List ℕ) → Option (List ℕ × List ℕ)
with_byte b None = None
with_byte b (Some read) = Some (b ∷ read.0, read.1)

-- what a field says from behind its first quote on, and what stands behind it; of two quotes the first says nothing,
-- and a quote that another byte follows ends the field
abbrev pub unquoted : Bool → List ℕ → Option (List ℕ × List ℕ)
unquoted false [] = None
unquoted true [] = Some ([], [])
unquoted false (b ∷ bs) = cond (b == 34) (unquoted true bs) (with_byte b (unquoted false bs))
unquoted true (b ∷ bs) = cond (b == 34) (with_byte 34 (unquoted false bs)) (Some ([], b ∷ bs))

-- what the field at the head of some bytes says, and what stands behind it
abbrev pub field_of : List ℕ → Option (List ℕ × List ℕ)
field_of [] = None
field_of (b ∷ bs) = cond (b == 34) (unquoted false bs) None

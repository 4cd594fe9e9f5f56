-- What the names are on a page.
use Rattle.std.proofs.Common.{◌≡◌, [], ◌∷◌, refl, codes}
use Rattle.std.specs.Char.{encode_utf8}
use Rattle.std.specs.Str.{chars, is_utf8}
use Rattle.buck_page_text.specs.Names.{name_text}

pub quotes : name_text (34 ∷ 39 ∷ []) ≡ codes "&quot;&#39;"
unfolding is_utf8 chars encode_utf8
quotes = refl

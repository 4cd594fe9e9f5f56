-- A name that is a text, and one that is none.
use Rattle.std.proofs.Common.{◌≡◌, ℕ, List, Bool, cond, ap, sym}
use Rattle.std.proofs.lemmas.Bool.{false_from_ne_true}
use Rattle.std.proofs.lemmas.Str.{IsUtf8-from_is_utf8, is_utf8-from_IsUtf8}
use Rattle.std.specs.Str.{IsUtf8, is_utf8}
use Rattle.buck_page_text.specs.Names.{escaped_text, escaped_bytes, name_text}

pub is_of_text : (name : List ℕ) → IsUtf8 name → escaped_text name ≡ name_text name
is_of_text name is = sym (ap (λ q. cond q (escaped_text name) (escaped_bytes name)) (is_utf8-from_IsUtf8 name is))

pub not_text : (name : List ℕ) → (IsUtf8 name → ⊥) → escaped_bytes name ≡ name_text name
not_text name none =
    sym (ap (λ q. cond q (escaped_text name) (escaped_bytes name))
    (false_from_ne_true (is_utf8 name) (λ is. none (IsUtf8-from_is_utf8 name is))))

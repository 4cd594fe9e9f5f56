-- A field is read back as it was.
use Rattle.std.proofs.Common.{◌≡◌, ℕ, ◌==◌, ◌∷◌, ◌++◌, [], List, Bool, true, false, cond, Some, refl, ap, sym, ◌∙◌}
use Rattle.std.specs.List.{flat_map}
use Rattle.std.proofs.lemmas.Bool.Decides.{Decides-eqb}
use mathlib.Core.List.{append_assoc}
use Rattle.buck_page_text.specs.Names.{in_quotes, quoted, unquoted, with_byte, field_of}

-- by whether the next byte is a quote
step : (b : ℕ) (quote : Bool) → (b == 34) ≡ quote → (bs more rest : List ℕ)
    → unquoted false more ≡ Some (bs, rest)
    → unquoted false (cond quote (34 ∷ 34 ∷ []) (b ∷ []) ++ more) ≡ Some (b ∷ bs, rest)
step b true e bs more rest read =
    ap (with_byte 34) read ∙ ap (λ x. Some (x ∷ bs, rest)) (sym ((Decides-eqb b 34).0 e))
step b false e bs more rest read =
    ap (λ q. cond q (unquoted true more) (with_byte b (unquoted false more))) e ∙ ap (with_byte b) read

again : (name rest : List ℕ) → unquoted false (flat_map in_quotes name ++ (34 ∷ 10 ∷ rest)) ≡ Some (name, 10 ∷ rest)
again [] rest = refl
again (b ∷ bs) rest =
    rw append_assoc (step b (b == 34) refl bs (flat_map in_quotes bs ++ (34 ∷ 10 ∷ rest)) (10 ∷ rest) (again bs rest))

pub field_again : (name rest : List ℕ) → field_of (quoted name ++ (10 ∷ rest)) ≡ Some (name, 10 ∷ rest)
field_again name rest = rw append_assoc (again name rest)

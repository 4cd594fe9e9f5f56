use Rattle.std.proofs.Common.{◌≡◌, Bool, true, false, cond, map, ap, sym, subst, ◌∙◌}
use Rattle.std.proofs.Output.{has_written_of_eq}
use Rattle.std.proofs.lemmas.Iterator.{YieldsList-from_chars}
use Rattle.std.proofs.lemmas.Iterator.Consumers.{YieldsList-end}
use Rattle.std.proofs.lemmas.List.{map-id}
use Rattle.std.proofs.lemmas.Str.{is_utf8-from_IsUtf8}
use Rattle.std.specs.List.{flat_map}
use Rattle.std.specs.Str.{chars, is_utf8, IsUtf8}
use Rattle.buck_page_text.specs.Names.{escaped, escaped_text, escaped_bytes, name_text}
use Rattle.buck_page_text.proofs.Texts.{not_text, is_of_text}
use Rattle.buck_page_text.proofs.names.NameDisplay.fmt.Goals as goal

pub returns-in-None-clause-writes : goal.returns-in-None-clause-writes
returns-in-None-clause-writes g c p ok =
    let utf8 : IsUtf8 c.in-Ok.text.now = subst IsUtf8 (sym c.in-Ok.ensures.cases.0) c.in-Ok.ensures.cases.1 in
    let t = YieldsList-end (YieldsList-from_chars c.in-Ok.text.now utf8 cc) c.loop-c.yielded _ c.loop-c.yielded_by _ _
    c.in-None.is c.next.ensures.steps in
    has_written_of_eq _ _ _ _ _
    (ap (flat_map escaped) (sym (map-id c.loop-c.yielded) ∙ t.0)
    ∙ ap escaped_text c.in-Ok.ensures.cases.0
    ∙ is_of_text _ c.in-Ok.ensures.cases.1)
    (c.loop-c.invariant p)

pub returns-in-Err-clause-writes : goal.returns-in-Err-clause-writes
returns-in-Err-clause-writes g c p ok =
    has_written_of_eq _ _ _ _ _ (not_text _ c.in-Err.ensures.cases.0) (c.write-in-Err.ensures.writes p ok)

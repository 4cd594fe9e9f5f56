use Rattle.buck_dp.proofs.Words.{◌≡◌, rules, refl, sym, ◌∙◌, slice_get_read, same_Some}
use Rattle.buck_dp.proofs.sheet_cache.SheetCache.find.Goals as goal

pub returns : goal.returns
returns c =
    let is = c.in_ok-entry.ensures.lookup in
    let place = c.in_ok-place.field-0.now in
    let at = slice_get_read c.deref-2.result.now _ place c.in_ok-entry.field-0.now refl is.3.0 is.1 in
    rw (← c.self.view_is, ← c.deref-2.ensures.value) (
      is.3.0,
      λ h there.
          let same : c.in_ok-entry.field-0.now ≡ h = same_Some _ _ (sym at ∙ there) in
          rw (← same) (search (rules, c.if-ne.ensures), search rules),
    )

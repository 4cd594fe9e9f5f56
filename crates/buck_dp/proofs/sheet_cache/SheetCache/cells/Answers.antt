use Rattle.buck_dp.proofs.Words.{◌≡◌, ◌+◌, ◌-◌, arith, refl, slice_get_read}
use Rattle.buck_dp.proofs.sheet_cache.SheetCache.cells.Goals as goal

pub returns : goal.returns
returns c takers d there =
    let h = c.index-entry.result.now in
    let place = rw (← c.self.view_is) at there in
    let at = slice_get_read c.self.inside.entries.items _ c.args.place h refl place.0 c.index-entry.ensures in
    let (whose, thick) = place.1 h at in
    let number : h.from + h.number - h.from ≡ h.number = omega arith in
    rw (← c.self.view_is, c.deref.ensures.value, number, ← whose, ← thick) (c.self.invariant.rows _ h at).1

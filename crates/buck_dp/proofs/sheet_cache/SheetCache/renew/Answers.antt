use Rattle.buck_dp.proofs.Words.{rules, none-some, CacheParts, ap, sym, ◌∙◌}
use Rattle.buck_dp.proofs.sheet_cache.SheetCache.renew.Goals as goal

pub invariant_of-self : goal.invariant_of-self
invariant_of-self c =
    let was = c.self.invariant in
    let same = c.requires.same ∙ ap (λ (m : CacheParts). m.sheet.instruction) (sym c.self.view_is) in
    record {
      valid = c.requires.valid;
      types = rw same was.types;
      kinds = rw same was.kinds;
      terms = rw same was.terms;
      candidates = search (rules, none-some);
      rows = search (rules, none-some);
    }

use Rattle.buck_dp.proofs.sheet_cache.SheetCache.set_of.Goals as goal

pub returns-clause-takers : goal.returns-clause-takers
returns-clause-takers c = rw (← c.self.view_is) (rw c.deref.ensures at c.set_of.ensures.right)

pub set_of-requires : goal.set_of-requires
set_of-requires c = record { kinds = rw c.deref.ensures c.self.invariant.kinds }

pub invariant_of-self : goal.invariant_of-self
invariant_of-self c =
    let w = c.self.invariant in
    record {
      valid = w.valid;
      types = w.types;
      kinds = rw c.deref.ensures at c.set_of.ensures.kinds;
      terms = w.terms;
      candidates = w.candidates;
      rows = w.rows;
    }

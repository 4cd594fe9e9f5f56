use Rattle.buck_dp.proofs.Words.{rules, AllAre, HasTerms, IsListAt}
use Rattle.buck_dp.proofs.CacheLemmas.{list_put}
use Rattle.buck_dp.proofs.sheet_cache.SheetCache.terms_at.Goals as goal

-- the terms that are found are put behind the others
put : (c : goal.In_ok-push)
    → AllAre (HasTerms c.self.inside.sheet.value c.self.inside.types) c.push.new.self.items
    × IsListAt c.push.new.self.items c.every-takers.result c.args.diameter c.len-place.result
put c =
    list_put (HasTerms c.self.inside.sheet.value c.self.inside.types) _ c.self.invariant.terms c.len-place.result
    c.in_ok-push.ensures.items (search rules) (search (rules, c.in_ok-list.ensures)) c.band_around-band.ensures.within

pub invariant_of-self : goal.invariant_of-self
invariant_of-self c = rw c.in_err-push.ensures.items c.self.invariant

pub invariant_of-self-2 : goal.invariant_of-self-2
invariant_of-self-2 c =
    let w = c.self.invariant in
    record {
      valid = w.valid;
      types = w.types;
      kinds = w.kinds;
      terms = (put c).0;
      candidates = w.candidates;
      rows = w.rows;
    }

pub returns-clause-place : goal.returns-clause-place
returns-clause-place c = (_, (put c).1)

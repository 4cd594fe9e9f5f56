use Rattle.buck_dp.proofs.Words.{rules, AllAre, HasTerms, HasCandidates, IsListAt}
use Rattle.buck_dp.proofs.CacheLemmas.{list_put, list_found}
use Rattle.buck_dp.proofs.sheet_cache.SheetCache.candidates_at.Goals as goal

-- the candidates of the terms that are found are put behind the others
put : (c : goal.In_ok-push)
    → AllAre (HasCandidates c.self-2.inside.sheet.value c.self-2.inside.types) c.push.new.self.items
    × IsListAt c.push.new.self.items c.args.takers c.args.diameter c.len-place.result
put c =
    let k = c.self-2.inside in
    let found = list_found (HasTerms k.sheet.value k.types) k.terms.items c.self-2.invariant.terms
    (rw (← c.self-2.view_is) at c.in_ok-at.ensures.place.1) c.index-terms.ensures in
    let ok = c.in_ok-put_list.ensures k.types.list.items (rw (c.as_slice-2.ensures.value, c.deref.ensures) found.0) in
    list_put (HasCandidates k.sheet.value k.types) _ c.self-2.invariant.candidates c.len-place.result
    c.in_ok-push.ensures.items (search rules) (rw c.deref.ensures at ok) found.2

pub put_list-requires-clause-terms : goal.put_list-requires-clause-terms
put_list-requires-clause-terms c =
    let k = c.self-2.inside in (
      k.types.list.items,
      rw (c.as_slice-2.ensures.value, c.deref.ensures) (list_found (HasTerms k.sheet.value k.types) k.terms.items
          c.self-2.invariant.terms (rw (← c.self-2.view_is) at c.in_ok-at.ensures.place.1) c.index-terms.ensures).0,
    )

pub invariant_of-self-2 : goal.invariant_of-self-2
invariant_of-self-2 c =
    let w = c.self-2.invariant in
    record { valid = w.valid; types = w.types; kinds = w.kinds; terms = w.terms; candidates = (put c).0; rows = w.rows }

pub returns-clause-place : goal.returns-clause-place
returns-clause-place c = (put c).1

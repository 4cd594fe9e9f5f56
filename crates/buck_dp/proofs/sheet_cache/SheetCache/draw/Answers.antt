use Rattle.buck_dp.proofs.Words.{length-map, rules, AllAre, IsAt, IsRowAt}
use Rattle.buck_dp.proofs.CacheLemmas.{row_found, row_put}
use Rattle.buck_dp.proofs.sheet_cache.SheetCache.draw.Goals as goal

-- the row is put behind the others
put : (c : goal.After-push_reserved)
    → AllAre (IsAt c.self.inside.sheet.value c.self.inside.types c.put_row.new.cells.items)
    c.push_reserved.new.self.items
    × IsRowAt c.push_reserved.new.self.items c.args.set.takers c.args.diameter c.len-place.result
put c =
    let found = row_found c.self.invariant (rw (← c.self.view_is) at c.in_ok-at.ensures.place) c.index.ensures in
    row_put c.self.inside.sheet.value c.self.inside.types _ c.len-place.result c.self.invariant.rows (search rules)
    (rw c.in_ok-reserve.ensures.items at c.push_reserved.ensures.items) c.in_ok-put_row.ensures.put
    (rw c.as_slice-candidates.ensures.value found.1) (search rules) (search (rules, length-map))

pub put_row-requires-clause-list : goal.put_row-requires-clause-list
put_row-requires-clause-list c =
    rw c.as_slice-candidates.ensures.value
    (row_found c.self.invariant (rw (← c.self.view_is) at c.in_ok-at.ensures.place) c.index.ensures).0

pub invariant_of-self-2 : goal.invariant_of-self-2
invariant_of-self-2 c =
    let w = c.self.invariant in
    record {
      valid = w.valid;
      types = w.types;
      kinds = w.kinds;
      terms = w.terms;
      candidates = w.candidates;
      rows = (put c).0;
    }

pub returns-clause-row : goal.returns-clause-row
returns-clause-row c = (put c).1

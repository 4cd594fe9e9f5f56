use Rattle.std.proofs.Common.{[], refl, sym}
use Rattle.buck_record.proofs.CursorLemmas.{begins_with, leads_in, kept_on, passed_on}
use Rattle.buck_record.proofs.pass.cursor.next_of.Goals as goal

pub returns-then-is_at-clause-next : goal.returns-then-is_at-clause-next
returns-then-is_at-clause-next c =
    let first = begins_with c.in-Some.ensures.first (sym c.in-Some-read_piece.ensures) c.in-Some.ensures.shorter in
    let asked = leads_in c.args.slot (rw (sym c.item.view_is) at first)
    (rw (sym c.item.view_is) at (sym c.if-is_at.ensures)) in
    λ items h. c.loop.invariant _ (kept_on c.args.slots.now asked c.requires items h)

pub returns-in_default-clause-done : goal.returns-in_default-clause-done
unfolding Rattle.buck_record.specs.Reading.each_from
returns-in_default-clause-done c = c.loop.invariant [] ([], λ k. rw c.in_default.ensures.none refl, refl)

pub loop-preserved : goal.loop-preserved
loop-preserved c =
    let first = begins_with c.in-Some.ensures.first (sym c.in-Some-read_piece.ensures) c.in-Some.ensures.shorter in
    λ items h. c.loop.invariant items (passed_on c.args.slots.now first (sym c.if-is_in.ensures) items h)

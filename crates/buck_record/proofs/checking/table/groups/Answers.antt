use Rattle.std.proofs.Common.{sym, ◌∙◌}
use Rattle.buck_record.proofs.TableLemmas.{goes_on, passes_by, groups-end}
use Rattle.buck_record.proofs.checking.table.groups.Goals as goal
use Rattle.buck_record.proofs.checking.table.groups.Goals.{then-is_at+in_ok-push, else-is_at}

pub loop-i-preserved : goal.loop-i-preserved
loop-i-preserved c =
    let items = c.args.items.now in
    let x = c.index-items-i.result in
    elim c.if-is_at.branch [
      | then-is_at+in_ok-push w ↦
          rw (w.groups-is, w.in_ok-push.ensures.items)
          (goes_on c.args.slot items c.loop-i.i x c.loop-i.groups.items _ w.of.result c.loop-i-test.true
          c.index-items-i.is (sym w.if-is_at.ensures) (w.of.ensures ∙ w.group_at.ensures) c.loop-i.invariant)
      | else-is_at w ↦
          rw w.groups-is
          (passes_by c.args.slot items c.loop-i.i x c.loop-i.groups.items _ c.loop-i-test.true c.index-items-i.is
          (sym c.is_at.ensures ∙ w.if-is_at.false) c.loop-i.invariant)
    ]

pub returns : goal.returns
returns c =
    c.of-2.ensures
    ∙ groups-end c.args.slot c.args.items.now c.loop-i.i c.loop-i.groups.items _ c.loop-i-test.false c.loop-i.invariant

use Rattle.buck_fleet.proofs.Words.{arith, refl, Cut}
use Rattle.buck_fleet.proofs.Answered.{is_kept, no_less, reply_for}
use Rattle.buck_fleet.proofs.desk.Desk.add.Goals as goal

pub returns-clause-reply : goal.returns-clause-reply
returns-clause-reply g c =
    let made = c.in-Ok.ensures in
    let added = c.commit-entry.ensures in
    let position = c.len-position.result in
    let h = c.args.self.now.book.history in
    reply_for h _ _ _ _ _ c.seat.view_is added.entry c.requires.ready.sheet_in_force made.best
    (omega (arith, no_less h c.commit-entry.new.self.history _ added.postings added.instruction))
    (is_kept _ _ _ c.prepare_rest.new.kept.items _ (record { position = position; entry = Cut c.sharing.result })
    c.seat.view_is made.kept (λ t. record { position = position; entry = Cut (c.sharing.ensures t) })
    record {
      same_harvester = refl;
      kept_are = c.keep.ensures.kept;
      same_parts = c.keep.ensures.parts;
      seen_rises = c.keep.ensures.rises;
    })

pub returns-clause-shown : goal.returns-clause-shown
returns-clause-shown g c =
    let made = c.in-Ok.ensures in
    (c.args.ready.next, c.commit-entry.ensures.sheets, made.shown)

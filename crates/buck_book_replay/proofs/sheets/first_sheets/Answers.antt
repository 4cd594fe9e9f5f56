use Rattle.buck_book_replay.proofs.Words.{map, subst, arith, ◌≡◌, IfSome, length_push, sheet_at}
use Rattle.buck_book_replay.proofs.Made.{one_more}
use Rattle.buck_book_replay.proofs.sheets.first_sheets.Goals as goal

pub loop-version-preserved : goal.loop-version-preserved
loop-version-preserved c =
    let i = c.args.instruction.now.value in
    let sheets = map (λ v. v.items) c.args.sheets.now in
    record {
      made = one_more (λ b. b.value) i sheets c.loop-version.made.items c.push.new.self.items c.in-Some.sheet
          c.loop-version.version c.loop-version.invariant.made c.loop-version.invariant.count c.in_ok-push.ensures.items
          (subst (λ o. IfSome o (λ t. t.value ≡ sheet_at i sheets c.loop-version.version)) c.in-Some.is
          c.in_ok-sheet.ensures.sheet);
      count = grind (arith, length_push);
    }

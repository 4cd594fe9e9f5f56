use Rattle.std.proofs.Common.{◌∷◌, [], ◌∙◌, sym, arith, take_all, length-append}
use Rattle.std.proofs.lemmas.List.{take_at}
use Rattle.buckfleet_live.proofs.lines.hold.Goals as goal

pub returns-then-len-le-LONGEST-clause-held : goal.returns-then-len-le-LONGEST-clause-held
returns-then-len-le-LONGEST-clause-held c =
    let one = length-append c.args.line.now.items (c.args.byte ∷ []) in
    c.push_reserved.ensures.items
    ∙ sym (take_all 1048577 _ (omega (arith, one, c.if-len-le-LONGEST.true, c.len.ensures)))

pub returns-else-len-le-LONGEST-clause-held : goal.returns-else-len-le-LONGEST-clause-held
returns-else-len-le-LONGEST-clause-held c =
    sym (take_at c.args.line.now.items (c.args.byte ∷ []) 1048577
    (omega (arith, c.requires.few, c.if-len-le-LONGEST.false, c.len.ensures)))

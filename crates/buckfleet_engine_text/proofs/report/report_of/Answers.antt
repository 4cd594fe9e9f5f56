use Rattle.std.proofs.Common.{ℕ, ◌∙◌, ap}
use Rattle.std.specs.declared.vec.Vec.{Vec}
use Rattle.std.specs.declared.alloc.Global.{Global}
use Rattle.std.proofs.lemmas.Result.{IfOk-weaker}
use Rattle.buck_value.specs.Sheet.{SheetParts}
use Rattle.buckfleet_engine_text.proofs.Endings.{reported}
use Rattle.buckfleet_engine_text.proofs.report.report_of.Goals as goal

pub returns : goal.returns
returns c =
    IfOk-weaker _ _ _
    (λ (text : Vec ℕ Global) is. reported c.args.parts.now _ _ _ _ _ text.items (c.deref.ensures ∙ c.instruction.ensures)
    c.entries.ensures.postings c.targets.ensures.targets c.counts.ensures
    (c.prices.ensures.prices ∙ ap (λ (s : SheetParts). s.prices) (c.deref-2.ensures ∙ c.last_sheet.ensures)) is)
    c.report_with.ensures

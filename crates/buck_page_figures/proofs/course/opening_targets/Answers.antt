use Rattle.std.proofs.Common.{◌≡◌, ◌∙◌, ap, arith}
use Rattle.std.specs.List.{flat_map}
use Rattle.std.proofs.lemmas.List.{take_all}
use Rattle.buck_apt_instruction.specs.Instruction.{AssortmentParts}
use Rattle.buck_book_postings.specs.Posting.{opening_targets}
use Rattle.buck_page_figures.proofs.JournalLemmas.{opening_number}
use Rattle.buck_page_figures.proofs.course.opening_targets.Goals as goal

pub returns-clause-number : goal.returns-clause-number
returns-clause-number c =
    let all = c.assortments-assortment-items in
    let is : c.loop-assortment.targets.items ≡ opening_targets c.args.instruction.now =
    c.loop-assortment.invariant
    ∙ ap (λ as_. flat_map (λ (a : AssortmentParts). a.targets) as_)
    (take_all c.loop-assortment.assortment-index all.result.now (omega arith) ∙ all.ensures.items) in
    opening_number c.args.instruction.now c.loop-assortment.targets.items is all.ensures.valid

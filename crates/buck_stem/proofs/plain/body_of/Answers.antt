use Rattle.std.proofs.Common.{◌≡◌, true, codes, ap, sym, ◌∙◌}
use Rattle.std.specs.Str.{bytes_eq}
use Rattle.std.proofs.lemmas.Bool.{not-false}
use Rattle.buck_stem.proofs.PlainLemmas.{read_stems}
use Rattle.buck_stem.proofs.plain.body_of.Goals as goal

pub returns : goal.returns
returns c = λ stems h.
    let kind = c.in-Some.kind.now in
    let says : bytes_eq kind (codes "STM") ≡ true =
    ap (bytes_eq kind) (sym c.as_slice.ensures) ∙ not-false _ (sym c.if-ne.ensures) in
    read_stems c.args.bytes.now kind c.in-Some.body.now stems (rw c.in-Some.is at c.in-Ok.ensures.next) says h

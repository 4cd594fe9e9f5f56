use Rattle.std.proofs.Common.{◌≡◌, ◌<◌, ℕ, length, refl, sym, subst, ap, ◌∙◌, inl, inr, arith, rules}
use Rattle.std.specs.Prelude.{slice_get, slice_index, Some, sum}
use Rattle.std.proofs.lemmas.Option.{slice_get_cases}
use Rattle.buck_apt_instruction.specs.Instruction.{AssortmentParts, InstructionParts, classes, classes_of}
use Rattle.buck_book_postings.specs.Degree.{part_of}
use Rattle.buck_page_figures.specs.inner.Lacking.{AreLacksBefore}
use Rattle.buck_page_figures.proofs.LackingLemmas.{lacks_more, lacks_same, lacks_last, lacks_skip, none_short, not_short}
use Rattle.buck_page_figures.proofs.RowLemmas.{length-part}
use Rattle.buck_page_figures.proofs.lacks.add_lacking.Goals as goal
use Rattle.buck_page_figures.proofs.lacks.add_lacking.Goals.{After-sum_of-cut, then-times+in_ok-push, else-times}

-- an assortment that is there
found_at : (i : InstructionParts) (at : ℕ) → at < length i.assortments → (a : AssortmentParts) × (slice_get i.assortments at ≡ Some a)
found_at i at lt = elim ((slice_get_cases i.assortments at).1) [
  | inl h ↦ (h.0, h.2)
  | inr h ↦ absurd (omega (arith, lt, h.0))
]

-- the assortment, with its parts of all numbers
record AreParts (c : After-sum_of-cut) : Type 0 where
  a : AssortmentParts
  there : slice_get c.args.figures.now.instruction.now.assortments c.args.at ≡ Some a
  targets : c.part-targets.result.now ≡ part_of c.args.figures.now.instruction.now a c.args.at c.args.figures.now.targets.value.items
  counts : c.part-counts.result.now ≡ part_of c.args.figures.now.instruction.now a c.args.at c.args.figures.now.counts.items
  unsteered : c.part-unsteered.result.now ≡ part_of c.args.figures.now.instruction.now a c.args.at c.args.figures.now.unsteered.items
  wanted : c.sum_of-wanted.result ≡ sum c.part-targets.result.now
  cut : c.sum_of-cut.result ≡ sum c.part-counts.result.now

parts : (c : After-sum_of-cut) → AreParts c
parts c =
    let f = c.args.figures.now in
    let i = f.instruction.now in
    let a = found_at i c.args.at c.requires.exists in
    let targets : c.as_slice.result.now ≡ f.targets.value.items = search rules in
    let counts : c.as_slice-2.result.now ≡ f.counts.items = search rules in
    let unsteered : c.as_slice-3.result.now ≡ f.unsteered.items = search rules in
    let targets_number : length f.targets.value.items ≡ classes i = omega (arith, f.targets.value.ok.0, f.targets_number) in
    let counts_number : length f.counts.items ≡ classes i = omega (arith, f.counts.ok.0, f.counts_number) in
    let unsteered_number : length f.unsteered.items ≡ classes i = omega (arith, f.unsteered.ok.0, f.unsteered_number) in
    record {
      a = a.0;
      there = a.1;
      targets = c.part-targets.ensures.part a.0 a.1 (ap length targets ∙ targets_number) ∙ ap (part_of i a.0 c.args.at) targets;
      counts = c.part-counts.ensures.part a.0 a.1 (ap length counts ∙ counts_number) ∙ ap (part_of i a.0 c.args.at) counts;
      unsteered = c.part-unsteered.ensures.part a.0 a.1 (ap length unsteered ∙ unsteered_number) ∙ ap (part_of i a.0 c.args.at) unsteered;
      wanted = c.sum_of-wanted.ensures.few c.part-targets.ensures.few;
      cut = c.sum_of-cut.ensures.few c.part-counts.ensures.few;
    }

pub returns-then-wanted-eq0 : goal.returns-then-wanted-eq0
returns-then-wanted-eq0 c =
    let f = c.args.figures.now in
    let p = parts (goal.at.returns-then-wanted-eq0 c).After-sum_of-cut in
    let none : sum c.part-targets.result.now ≡ 0 = sym p.wanted ∙ c.if-wanted-eq0.true in
    lacks_skip f.instruction.now f.targets.value.items f.counts.items f.unsteered.items c.args.at p.a p.there
    c.args.found.now.items c.requires.before
    (λ class. none_short (part_of f.instruction.now p.a c.args.at f.targets.value.items)
    (part_of f.instruction.now p.a c.args.at f.counts.items) class
    (rw (← p.targets, none) (omega arith)))

pub loop-class-preserved : goal.loop-class-preserved
loop-class-preserved c =
    let f = c.args.figures.now in
    let i = f.instruction.now in
    let class = c.loop-class.class in
    let p = parts (goal.at.loop-class-preserved c).After-sum_of-cut in
    let number : length f.targets.value.items ≡ classes i = omega (arith, f.targets.value.ok.0, f.targets_number) in
    let within : class < classes_of p.a =
    omega (arith, c.loop-class-test.true, ap length p.targets, length-part i c.args.at p.a f.targets.value.items p.there number) in
    let count : c.number_at-count.result ≡ slice_index (part_of i p.a c.args.at f.counts.items) class =
    c.number_at-count.ensures ∙ ap (λ l. slice_index l class) p.counts in
    let target : slice_index c.part-targets.result.now class ≡ slice_index (part_of i p.a c.args.at f.targets.value.items) class =
    ap (λ l. slice_index l class) p.targets in
    let wanted : c.sum_of-wanted.result ≡ sum (part_of i p.a c.args.at f.targets.value.items) = p.wanted ∙ ap sum p.targets in
    let cut : c.sum_of-cut.result ≡ sum (part_of i p.a c.args.at f.counts.items) = p.cut ∙ ap sum p.counts in
    elim c.if-times.branch [
      | then-times+in_ok-push w ↦
          rw (w.found-is, w.in_ok-push.ensures.items)
          (lacks_more i f.targets.value.items f.counts.items f.unsteered.items c.args.at p.a p.there class
          c.loop-class.found.items _ c.loop-class.invariant
          (record {
            assortment = p.a;
            there = p.there;
            within = within;
            target = target;
            count = count;
            without = w.number_at.ensures ∙ ap (λ l. slice_index l class) p.unsteered;
            all_targets = wanted;
            all_counts = cut;
          })
          refl refl)
      | else-times w ↦
          rw w.found-is
          (lacks_same i f.targets.value.items f.counts.items f.unsteered.items c.args.at p.a p.there class
          c.loop-class.found.items c.loop-class.invariant
          (not_short (part_of i p.a c.args.at f.targets.value.items) (part_of i p.a c.args.at f.counts.items) class
          (slice_index c.part-targets.result.now class) c.number_at-count.result c.sum_of-wanted.result c.sum_of-cut.result
          target count wanted cut
          (omega (arith, w.if-times.false, c.times.ensures.product, c.times-in-loop-class.ensures.product))))
    ]

pub returns : goal.returns
returns c =
    let f = c.args.figures.now in
    let i = f.instruction.now in
    let p = parts (goal.at.returns c).After-sum_of-cut in
    let number : length f.targets.value.items ≡ classes i = omega (arith, f.targets.value.ok.0, f.targets_number) in
    let end : c.loop-class.class ≡ classes_of p.a =
    omega (
      arith,
      c.loop-class-test.false,
      c.loop-class.auto.class-end,
      ap length p.targets,
      length-part i c.args.at p.a f.targets.value.items p.there number,
    ) in
    lacks_last i f.targets.value.items f.counts.items f.unsteered.items c.args.at p.a p.there c.loop-class.found.items
    (subst (λ n. AreLacksBefore i f.targets.value.items f.counts.items f.unsteered.items c.args.at n c.loop-class.found.items)
    end c.loop-class.invariant)

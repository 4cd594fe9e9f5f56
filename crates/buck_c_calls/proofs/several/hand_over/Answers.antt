use Rattle.std.proofs.Common.{rules, ◌≡◌, ◌-◌, ◌<◌, ◌++◌, Bor, List, length, map, sum, take, drop, slice_index_or, inr, refl, ap, subst, ◌∙◌, arith}
use Rattle.std.proofs.lemmas.List.{length-drop, take-append-drop, take_all}
use Rattle.buck_c_calls.specs.Turns.{AreFiles}
use Rattle.buck_c_calls.proofs.Handing.{none_of_lengths, two_more, two_sum}
use Rattle.buck_c_calls.proofs.Turned.{known_each}
use Rattle.buck_c_calls.proofs.several.hand_over.Goals as goal

pub returns-then-not-are_lengths-clause-refused : goal.returns-then-not-are_lengths-clause-refused
returns-then-not-are_lengths-clause-refused c =
    let differ : sum c.args.lengths.now ≡ length c.args.bytes.now → ⊥ = search rules in
    inr (refl, λ apt other more h. none_of_lengths c.args.lengths.now c.args.bytes.now apt other more differ h)

pub split_at-requires : goal.split_at-requires
split_at-requires c =
    let fill : sum c.args.lengths.now ≡ length c.args.bytes.now = search rules in
    let two : 1 < length c.args.lengths.now = search rules in
    omega (arith, fill, two_sum c.args.lengths.now two)

pub split_at-requires-2 : goal.split_at-requires-2
split_at-requires-2 c =
    let fill : sum c.args.lengths.now ≡ length c.args.bytes.now = search rules in
    let two : 1 < length c.args.lengths.now = search rules in
    omega (arith, fill, two_sum c.args.lengths.now two, c.split_at.ensures.back_len)

pub files_of-requires : goal.files_of-requires
files_of-requires c =
    let lengths = c.args.lengths.now in
    let fill : sum c.args.lengths.now ≡ length c.args.bytes.now = search rules in
    let two : 1 < length c.args.lengths.now = search rules in
    let is : sum (drop 2 c.args.lengths.now) ≡ length c.split_at-2.result.1.now =
    omega (arith, fill, two_sum lengths two, c.split_at.ensures.back_len, c.split_at-2.ensures.back_len) in
    ap (λ ns. sum ns) (take_all (length lengths - 2) (drop 2 lengths) (omega (arith, length-drop 2 lengths))) ∙ is

pub returns-clause-files : goal.returns-clause-files
returns-clause-files c =
    let lengths = c.args.lengths.now in
    let bytes = c.args.bytes.now in
    let two : 1 < length c.args.lengths.now = search rules in
    let apt = c.split_at.result.0.now in
    let behind = c.split_at.result.1.now in
    let other = c.split_at-2.result.0.now in
    let rest = c.split_at-2.result.1.now in
    let m = slice_index_or lengths 0 0 in
    let n = slice_index_or lengths 1 0 in
    let files = map (λ (f : Bor (List _)). f.now) c.in_ok-more.more.items in
    record {
      files = files;
      are_files = two_more lengths bytes apt behind other rest files two
          c.split_at.ensures.front_len
          (ap (λ xs. xs ++ behind) c.split_at.ensures.front ∙ ap (λ xs. take m bytes ++ xs) c.split_at.ensures.back
          ∙ take-append-drop m bytes)
          c.split_at-2.ensures.front_len
          (ap (λ xs. xs ++ rest) c.split_at-2.ensures.front ∙ ap (λ xs. take n behind ++ xs) c.split_at-2.ensures.back
          ∙ take-append-drop n behind)
          (subst (λ ns. AreFiles ns rest files)
          (take_all (length lengths - 2) (drop 2 lengths) (omega (arith, length-drop 2 lengths))) c.in_ok-more.ensures);
      more_are = known_each (λ (f : Bor (List _)). f.now) c.in_ok-more.more.items;
    }

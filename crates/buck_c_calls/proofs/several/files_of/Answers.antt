use Rattle.std.proofs.Common.{◌≡◌, ◌++◌, ◌∷◌, [], ℕ, List, Bor, map, length, take, slice_index_or, ap, ◌∙◌, arith}
use Rattle.std.specs.List.{concat}
use Rattle.std.proofs.lemmas.List.{map-append, take-append-drop, take_all}
use Rattle.buck_c_calls.proofs.Splits.{sum_drop, sum_behind, one_more, bytes_more, bytes_all}
use Rattle.buck_c_calls.proofs.several.files_of.Goals as goal

pub loop-length-init : goal.loop-length-init
loop-length-init c = record {
  sums = c.requires;
  sizes = ap (λ (fs : List (Bor (List ℕ))). map (λ (f : List ℕ). length f) (map (λ file. file.now) fs))
      c.new-files.ensures.items;
  bytes = ap (λ (fs : List (Bor (List ℕ))). concat (map (λ file. file.now) fs) ++ c.args.bytes.now)
      c.new-files.ensures.items;
}

pub split_at-requires : goal.split_at-requires
split_at-requires c =
    omega (
      arith,
      c.loop-length.invariant.sums,
      sum_drop c.args.lengths.now c.loop-length.length-index 0 c.loop-length-test.true,
    )

pub loop-length-preserved : goal.loop-length-preserved
loop-length-preserved c =
    let files = map (λ (f : Bor (List ℕ)). f.now) c.loop-length.files.items in
    let file = c.split_at.result.0.now in
    let n = slice_index_or c.args.lengths.now c.loop-length.length-index 0 in
    let now : map (λ (f : Bor (List ℕ)). f.now) c.push.new.self.items ≡ files ++ file ∷ [] =
    ap (λ fs. map (λ (f : Bor (List ℕ)). f.now) fs) c.in_ok-push.ensures.items
    ∙ map-append (λ (f : Bor (List ℕ)). f.now) c.loop-length.files.items (c.split_at.result.0 ∷ []) in
    record {
      sums = omega (
        arith,
        c.loop-length.invariant.sums,
        c.split_at.ensures.back_len,
        sum_drop c.args.lengths.now c.loop-length.length-index 0 c.loop-length-test.true,
      );
      sizes = ap (λ fs. map (λ (f : List ℕ). length f) fs) now
          ∙ one_more files file c.args.lengths.now c.loop-length.length-index 0 c.loop-length-test.true
          c.split_at.ensures.front_len c.loop-length.invariant.sizes;
      bytes = ap (λ fs. concat fs ++ c.split_at.result.1.now) now
          ∙ bytes_more files file c.loop-length.left.now c.split_at.result.1.now c.args.bytes.now
          (ap (λ xs. xs ++ c.split_at.result.1.now) c.split_at.ensures.front
          ∙ ap (λ xs. take n c.loop-length.left.now ++ xs) c.split_at.ensures.back
          ∙ take-append-drop n c.loop-length.left.now)
          c.loop-length.invariant.bytes;
    }

pub returns : goal.returns
returns c = (
  c.loop-length.invariant.sizes
      ∙ take_all c.loop-length.length-index c.args.lengths.now (omega (arith, c.loop-length-test.false)),
  bytes_all (map (λ (f : Bor (List ℕ)). f.now) c.loop-length.files.items) c.loop-length.left.now c.args.bytes.now
      (omega (
        arith,
        c.loop-length.invariant.sums,
        sum_behind c.args.lengths.now c.loop-length.length-index (omega (arith, c.loop-length-test.false)),
      ))
      c.loop-length.invariant.bytes,
)

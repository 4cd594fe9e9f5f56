-- What postings come to, posting by posting.
use Rattle.std.proofs.Common.{◌≡◌, ℕ, ◌+◌, ◌≤◌, List, [], ◌∷◌, ◌++◌, refl, sym, subst, ap, ◌∙◌, inl, inr, arith, length-append}
use Rattle.std.specs.Prelude.{sum_by}
use Rattle.std.proofs.lemmas.List.Sums.{sum_by-append, sum_by-cons}
use Rattle.buck_apt_instruction.specs.Instruction.{InstructionParts}
use Rattle.buck_book_postings.specs.declared.posting.Posting.{Posting}
use Rattle.buck_book_postings.proofs.Extend.{slice_get-push}
use Rattle.buck_page_figures.specs.declared.sums.Sums.{Sums}
use Rattle.buck_page_figures.specs.Figures.{cuts_in, demands_in, logs_in, volume_in, length_in, logged_in, trim_in, worth_in, at_base_in, IsUnsteered, AreUnsteered}
use Rattle.buck_stem_shape.specs.Stem.{StemParts, IsStem, stem_length}
use Rattle.buck_value.specs.declared.log.Log.{Log}
use Rattle.buck_value.specs.Sheet.{SheetParts, IsSheet}
use Rattle.buck_value.specs.Allowed.{IsAllowed, end_of, trim_of}
use Rattle.buck_dp.specs.Cutting.{IsCutFrom}
use Rattle.buck_page_figures.specs.Figures.{base_sheet}
use Rattle.buck_book_postings.specs.Entry.{EntryParts}
use Rattle.buck_book_postings.specs.declared.posting.Posting.TheVariants.{Cut}
use Rattle.buck_dp.specs.Best.{IsAdmissible, IsFirstBest, cutting_worth}
use Rattle.buck_dp.proofs.Lists.{each_allowed, end_within}
use Rattle.buck_book_postings.proofs.Cuts.{few_logs}
use Rattle.buck_page_figures.specs.inner.Counted.{AreOfPosting}
use Rattle.buck_page_figures.specs.declared.figures.Piece.{Piece}
use Rattle.buck_page_figures.specs.Pieces.{IsPiece, ArePieces}
use Rattle.buck_page_figures.specs.Sums.{AreSums}
use Rattle.buck_page_figures.specs.inner.Adding.{AreSumsTogether, IsPassed}

-- the sums over two lists of postings
pub sums_join : (i : InstructionParts) (ps qs us vs : List Posting) (a b s : Sums)
    → AreSums i ps us a → AreSums i qs vs b → AreSumsTogether a b s → AreSums i (ps ++ qs) (us ++ vs) s
sums_join i ps qs us vs a b s p q t = record {
  stems = omega (arith, t.stems, p.stems, q.stems, sum_by-append cuts_in ps qs);
  demands = omega (arith, t.demands, p.demands, q.demands, sum_by-append demands_in ps qs);
  logs = omega (arith, t.logs, p.logs, q.logs, sum_by-append logs_in ps qs);
  volume = omega (arith, t.volume, p.volume, q.volume, sum_by-append volume_in ps qs);
  length = omega (arith, t.length, p.length, q.length, sum_by-append length_in ps qs);
  logged = omega (arith, t.logged, p.logged, q.logged, sum_by-append logged_in ps qs);
  trim = omega (arith, t.trim, p.trim, q.trim, sum_by-append (trim_in i) ps qs);
  worth = omega (arith, t.worth, p.worth, q.worth, sum_by-append worth_in ps qs);
  at_base = omega (arith, t.at_base, p.at_base, q.at_base, sum_by-append (at_base_in i) ps qs);
  best = omega (arith, t.best, p.best, q.best, sum_by-append worth_in us vs);
}

-- one posting more unsteered
pub unsteered_more : (i : InstructionParts) (ps us : List Posting) (x u : Posting)
    → AreUnsteered i ps us → IsUnsteered i x u → AreUnsteered i (ps ++ x ∷ []) (us ++ u ∷ [])
unsteered_more i ps us x u all one = record {
  same_number = grind (arith, length-append, all.same_number);
  each = λ k y v hy hv.
      elim (slice_get-push ps x y k hy) [
        | inl h ↦ elim (slice_get-push us u v k hv) [
          | inl w ↦ all.each k y v h.1 w.1
          | inr w ↦ absurd (omega (arith, h.0, w.0, all.same_number))
        ]
        | inr h ↦ elim (slice_get-push us u v k hv) [
          | inl w ↦ absurd (omega (arith, h.0, w.0, all.same_number))
          | inr w ↦ subst (λ a. IsUnsteered i a v) (sym h.1) (subst (λ b. IsUnsteered i x b) (sym w.1) one)
        ]
      ];
}

-- the logs of an admissible cutting and their trim lie within their stem
pub within_stem : (i : InstructionParts) (stem : StemParts) (from : ℕ) (gs : List Log) → from ≤ stem_length stem.samples
    → IsCutFrom (IsAllowed i stem) (end_of i) from gs
    → sum_by (λ (g : Log). g.length) gs + sum_by (trim_of i) gs + from ≤ stem_length stem.samples
within_stem i stem from [] le c = omega arith
within_stem i stem from (g ∷ gs) le c =
    let rest = within_stem i stem (end_of i g) gs (end_within i stem g c.1) c.2 in
    omega (arith, rest, c.0, sum_by-cons (λ (g : Log). g.length) g gs, sum_by-cons (trim_of i) g gs)

-- what a cut comes to, given the best cutting of its stem at base prices
pub passed_cut : (i : InstructionParts) (e : EntryParts) (s : Sums) (logs : List Log) (best : ℕ) (sheet : SheetParts)
    → sheet ≡ base_sheet i → IsFirstBest sheet e.stem logs → best ≡ cutting_worth sheet e.stem logs
    → ((u : EntryParts) → u.worth ≡ best → AreSums i (Cut e ∷ []) (Cut u ∷ []) s)
    → IsPassed i (Cut e) s logs
passed_cut i e s logs best sheet same first worth sums =
    let u : EntryParts = record e { logs = logs; worth = best } in
    record {
      unsteered = Cut u;
      is_unsteered = (
        refl,
        refl,
        subst (λ t. IsFirstBest t e.stem logs) same first,
        worth
            ∙ ap (λ t. cutting_worth t e.stem logs) same,
      );
      logs_are = refl;
      sums = sums u refl;
    }

-- one log more as it was cut
pub pieces_more : (base : SheetParts) (prices : List ℕ) (stem : StemParts) (gs : List Log) (ps : List Piece) (g : Log)
    (p : Piece)
    → ArePieces base prices stem gs ps → IsPiece base prices stem g p
    → ArePieces base prices stem (gs ++ g ∷ []) (ps ++ p ∷ [])
pieces_more base prices stem gs ps g p all one = record {
  same_number = grind (arith, length-append, all.same_number);
  each = λ k a b ha hb.
      elim (slice_get-push gs g a k ha) [
        | inl h ↦ elim (slice_get-push ps p b k hb) [
          | inl w ↦ all.each k a b h.1 w.1
          | inr w ↦ absurd (omega (arith, h.0, w.0, all.same_number))
        ]
        | inr h ↦ elim (slice_get-push ps p b k hb) [
          | inl w ↦ absurd (omega (arith, h.0, w.0, all.same_number))
          | inr w ↦
              subst (λ x. IsPiece base prices stem x b) (sym h.1)
              (subst (λ y. IsPiece base prices stem g y) (sym w.1) one)
        ]
      ];
}

-- the logs of an admissible cutting of a posting's stem
pub of_posting : (s : SheetParts) (e : EntryParts) (logs : List Log) → IsSheet s → IsStem e.stem
    → IsAdmissible s e.stem logs
    → AreOfPosting s.instruction (Cut e) logs
of_posting s e logs valid stem cut =
    (each_allowed s e.stem 0 logs cut, few_logs s.instruction e.stem logs valid.valid stem cut)

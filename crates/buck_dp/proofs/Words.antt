-- The words that the proofs of this crate name, from where each is declared.
pub use Rattle.std.proofs.Common.{◌≡◌, ◌≤◌, inl, inr, refl, sym, ◌∙◌, subst, ap, arith, ℕ, ◌+◌, ◌*◌, List, ◌≢◌, ◌-◌, ◌<◌, ◌⊎◌, [], ◌∷◌, ◌++◌, take, length, length-append, slice_get, Some, All, ◌/◌, ◌%◌, slice_index, get_or, false}
pub use Rattle.std.proofs.Common.{zero, suc, Contains, rules, sum_by, drop, add-mul, mul-le-mul_right, mul-le-mul_left, slice_set, append_assoc, drop-cons, add-one, ◌↔◌, vec_len, vec_capacity, w16, map, nat_cmp, unwrap_or, nat_le, min}
pub use Rattle.std.proofs.Common.{IsPermutation, IsSorted, Ordering}
pub use Rattle.buck_dp.specs.inner.Words.{InstructionParts, AssortmentParts, classes, SheetParts, IsSheet, sheet_of, volume, HIGHEST_RANK, StemParts, IsStem, stem_length, Log, IsAllowed, IsBought, end_of, top_of, row_at, Cell, RowEntry}
pub use Rattle.buck_dp.specs.inner.Words.{LogTypes, CandidateList, AssortmentSet, Candidate, Term, ListKey, IsMaskBetween, bit_at, LogType}
pub use Rattle.buck_apt_instruction.specs.Instruction.{IsInstruction, IsAssortment, IsWithin}
pub use Rattle.std.proofs.lemmas.Bool.{cases_lt, cases_order, cases_eq, ne_eqb}
pub use Rattle.std.proofs.lemmas.Option.{same_Some, none-some, slice_get-get_or, slice_get_within, get_or_from_slice_get, slice_get_read}
pub use Rattle.std.proofs.lemmas.List.{get_or_append_left, drop_all, length-drop, get_or-append_right, get_or-append-add, drop_at, drop-append-le, take-append-le, take_all, length-set, get_or-set_other, append-nil, get_or_past, get_or_read}
pub use Rattle.std.proofs.lemmas.List.{with_items_is, get_or_default, get_or_push, length-map, get_or-map}
pub use Rattle.std.proofs.Math.Nat.{mul-mod_left, div-mul-le_self, mul-add-div_right, lt-div-mul-add, div-lt_iff_lt-mul, mul-div_left, zero-mul, mul-le-mul, le_of_mul-le-mul_right, div-le_of_le-mul}
pub use Rattle.buck_dp.specs.inner.Bid.{BidParts, bid_of, IsAtMost, IsGreater, plus, none}
pub use Rattle.buck_stem_shape.specs.Stem.{diameter_at, grade_at, HasGrade}
pub use Rattle.buck_value.specs.Allowed.{trim_in, trim_of, last_position}
pub use Rattle.buck_value.proofs.Rates.{worth_low}
pub use Rattle.buck_dp.specs.Cutting.{IsCutFrom}
pub use Rattle.buck_dp.specs.inner.Searched.{AllFit, AreChosen, IsNear, ServesRange, IsSettled, Reaches, IsMade, IsSearch, CanOffer, IsOffered, AreOffered}
pub use Rattle.buck_dp.specs.inner.Candidates.{IsTakersBid, IsSmall, candidate_bid, IsInBand, IsCandidate, AreTerms, AreCandidates, IsLed, IsLeading, cell_of, row_of, IsCell, IsRow, IsPriced, IsClassAt, HasNoPrice, candidate_at, IsCovered}
pub use Rattle.buck_dp.specs.inner.Candidates.{IsLeader, IsNext, IsTied, IsPruned, IsTerm}
pub use Rattle.buck_dp.specs.inner.Logs.{bid_at, IsLogAt, HasTakers, HasNoneOf, next_after, GroundParts, points_of, ends_of, point_after, IsTaker, AreTakersOf, AreWoodEntries}
unfoldable pub use Rattle.buck_dp.specs.inner.Logs.{log_at}
pub use Rattle.buck_dp.specs.inner.SheetCache.{CacheParts, AllAre, IsAt, Stands, IsRowAt, IsListAt, HasTerms, HasCandidates, IsCache}
pub use Rattle.std.proofs.lemmas.List.Sums.{sum_by-cons, sum_by_more, sum_by-le}
pub use Rattle.buck_value.proofs.Classes.{allowed_low, column_some, column_is, whole_steps}
pub use Rattle.buck_dp.specs.Order.{IsLogBefore, IsBefore}
pub use Rattle.buck_dp.specs.Best.{IsAdmissible, IsFirstBest, cutting_worth}
pub use Rattle.std.proofs.lemmas.Nat.{le-div}
pub use Rattle.buck_value.proofs.Prices.{price-le}
pub use Rattle.buck_stem_shape.specs.points.Profile.{IsMask}
pub use Rattle.buck_stem_shape.proofs.Tables.{grade_at_is}
pub use Rattle.buck_value.proofs.Grades.{mask_allows}
pub use Rattle.buck_dp.specs.inner.StemGrid.{IsGrid, IsRangeTo, AreRanges, HaveRanges, IsEven, IsNearest, IsCacheOf, IsPlan}
pub use Rattle.buck_dp.specs.declared.planning.StemGrid.{StemGrid}
pub use Rattle.buck_dp.specs.declared.planning.StartRange.{StartRange}
pub use Rattle.buck_value.specs.Untrimmed.{HasNoTrim, IsAllowedUntrimmed}
pub use Rattle.buck_value.proofs.Untrimmed.{no_trim, without_trim, with_trim}
pub use Rattle.std.proofs.lemmas.Grind.{common_steps}
pub use Rattle.buck_value.proofs.Stands.{stands}
pub use Rattle.std.proofs.lemmas.Nat.Bits.{bit_at_set_same, bit_at_set_other}
pub use Rattle.std.proofs.lemmas.List.Elements.{Contains-get_or, All-map, All-contains, All-cons, Contains-push_cases, Contains-push, Contains-append_left, All-weaker, All-push}
pub use Rattle.std.proofs.lemmas.Bool.Decides.{nat_tests}
pub use Rattle.buck_dp.specs.inner.LogTypes.{HasLogTypes, log_type, IsLogTypeOf, log_type_at, IsRank, IsNoLater, AreLogTypes, IsBand}
unfoldable pub use Rattle.buck_value.specs.Allowed.{worth_of}

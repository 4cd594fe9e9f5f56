-- The words that the definitions of this crate's own functions name, from where each is declared.
pub use Rattle.buck_apt_instruction.specs.Instruction.{AssortmentParts, InstructionParts, classes, index_of}
pub use Rattle.buck_apt_instruction.specs.declared.class.Class.{Class}
pub use Rattle.buck_dp.specs.declared.bid.TheConstants.{HIGHEST_RANK}
pub use Rattle.buck_dp.specs.declared.sheet_cache.RowEntry.{RowEntry}
pub use Rattle.buck_dp.specs.declared.sheet_cache.CandidateList.{CandidateList}
pub use Rattle.buck_dp.specs.declared.offering.Cell.{Cell}
pub use Rattle.buck_dp.specs.declared.log_types.LogTypes.{LogTypes}
pub use Rattle.buck_dp.specs.declared.log_types.LogType.{LogType}
pub use Rattle.buck_dp.specs.declared.pricing.ListKey.{ListKey}
pub use Rattle.buck_dp.specs.declared.pricing.Band.{Band}
pub use Rattle.buck_dp.specs.declared.pricing.Candidate.{Candidate}
pub use Rattle.buck_dp.specs.declared.pricing.Term.{Term}
pub use Rattle.buck_dp.specs.declared.assortment_sets.WoodEntry.{WoodEntry}
pub use Rattle.buck_dp.specs.declared.assortment_sets.AssortmentSet.{AssortmentSet}
pub use Rattle.buck_stem_shape.specs.Stem.{HasGradesOf, IsStem, StemParts, stem_length}
pub use Rattle.buck_stem_shape.specs.points.Profile.{IsMaskBetween, ProfileParts, profile_of}
pub use Rattle.buck_value.specs.Allowed.{IsAllowed, IsBought, column_of, end_of, log_of, row_at, top_of, worth_of}
pub use Rattle.buck_value.specs.Sheet.{IsSheet, SheetParts, price_of, sheet_of}
pub use Rattle.buck_value.specs.Volume.{volume, worth_at}
pub use Rattle.buck_value.specs.Wood.{TakesWood}
pub use Rattle.buck_value.specs.declared.log.Log.{Log}
pub use Rattle.buck_value.specs.declared.sheet.TheConstants.{HIGHEST_PRICE}
pub use Rattle.std.specs.Int.{bit_at}

pub mod Pieces
pub mod MovedLemmas
pub mod Targets
pub mod Wished
pub mod Ranked
pub mod Gains

pub mod PlaceLemmas
pub mod Rising
pub mod ChangeLemmas

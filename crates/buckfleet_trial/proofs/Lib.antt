pub mod Each
pub mod Orders
pub mod Lights
pub mod Lined
pub mod Ended
pub mod ReadLemmas
pub mod RunLemmas
pub mod Spreads

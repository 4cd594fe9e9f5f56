pub mod Replay
pub mod Order
pub mod inner

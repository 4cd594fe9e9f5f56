pub mod fleet
pub mod run
pub mod inner

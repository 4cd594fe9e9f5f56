pub mod Order
pub mod Cutting
pub mod Best
pub mod Untrimmed
pub mod inner

pub mod Kept
pub mod Felled
pub mod Looked
pub mod Block
pub mod inner

pub mod Spread
pub mod Cells
pub mod inner

-- What the crate's own functions show one another.
pub mod Words
pub mod LogTypes
pub mod Bid
pub mod Logs
pub mod Searched
pub mod Candidates
pub mod SheetCache
pub mod StemGrid

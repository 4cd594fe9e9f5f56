pub mod Sheets
pub mod Adding

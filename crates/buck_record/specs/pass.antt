pub mod Cursor
pub mod Added

pub mod Fleet
pub mod Reading
pub mod Text

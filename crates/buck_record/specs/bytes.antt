pub mod White
pub mod Record

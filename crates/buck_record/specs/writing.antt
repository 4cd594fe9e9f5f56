pub mod Written
pub mod Line

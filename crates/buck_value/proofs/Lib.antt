pub mod Prices
pub mod Classes
pub mod Rows
pub mod Rates
pub mod Stands
pub mod Grades
pub mod Untrimmed

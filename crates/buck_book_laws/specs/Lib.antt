pub mod Ranges
pub mod JournalsOfCuts

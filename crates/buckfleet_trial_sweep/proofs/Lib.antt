pub mod Words
pub mod Lesser
pub mod Tables
pub mod Histories
pub mod Sweeps

mod Orders
mod Tables
mod Journals
mod Means
mod Wanted
pub mod Lines

pub mod Texts
pub mod Postings
pub mod Shortest
pub mod Held

pub mod Words
pub mod LineLemmas
pub mod OwnLemmas
pub mod RunLemmas
pub mod ServedLemmas

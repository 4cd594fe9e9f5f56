pub mod Compared
pub mod PriceLemmas
pub mod TieAnswers

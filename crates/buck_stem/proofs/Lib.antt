pub mod PassLemmas
pub mod PlainLemmas

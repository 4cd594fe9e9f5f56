pub mod Determined
pub mod Endings
pub mod Reports
pub mod TextLemmas

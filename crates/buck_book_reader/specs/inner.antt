-- What the crate's own functions show one another.
pub mod Lists

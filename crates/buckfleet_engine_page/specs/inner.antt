pub mod Several
pub mod View

pub mod Pages
pub mod Several

pub mod Several
pub mod Showing
pub mod Viewing
pub mod inner

pub mod Told
pub mod Standing
pub mod Listed
pub mod Alone

pub mod Words
pub mod Alone
pub mod Lines
pub mod Sequence
pub mod Texts
pub mod Within

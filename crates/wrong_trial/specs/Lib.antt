pub mod Texts
pub mod SweepTexts

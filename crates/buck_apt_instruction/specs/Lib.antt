pub mod Instruction
pub mod Draft
pub mod Settings
pub mod Changed
pub mod Grades
pub mod Wanted
pub mod Priced
pub mod inner

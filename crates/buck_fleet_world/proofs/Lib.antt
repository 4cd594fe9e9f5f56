pub mod Words
pub mod Lists
pub mod Sound
pub mod Sheets
pub mod Committed
pub mod Kept
pub mod Counting
pub mod Rising

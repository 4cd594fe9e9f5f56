pub mod Words
pub mod Replays
pub mod Judged
pub mod Made
pub mod Faults
pub mod NoFault

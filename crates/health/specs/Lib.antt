pub mod Words
pub mod Flags
pub mod Status
pub mod Values
pub mod Rows

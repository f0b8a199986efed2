pub mod Enrolling
pub mod Lawful

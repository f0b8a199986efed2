pub mod Steps
pub mod Clearing
pub mod Entering
pub mod LowestPorts

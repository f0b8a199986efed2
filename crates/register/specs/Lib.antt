pub mod Functions
pub mod Controllers
pub mod RegisterRefusals
pub mod Registers
pub mod Inline

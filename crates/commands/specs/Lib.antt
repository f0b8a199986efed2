pub mod Fields
pub mod ControllerPoll
pub mod Status
pub mod Commands
pub mod ControllerData
pub mod SubsystemData

pub mod Polls
pub mod Shown

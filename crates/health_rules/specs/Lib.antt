pub mod FlagRule
pub mod Temperature

pub mod Names
pub mod Restores

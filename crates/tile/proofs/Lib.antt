pub mod Pasted
pub mod Runs

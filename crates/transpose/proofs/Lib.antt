pub mod Accepts
pub mod Whole

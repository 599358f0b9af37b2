pub mod Answers
pub mod Parts
pub mod Paths
pub mod Laws
pub mod Worked

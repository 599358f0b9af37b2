pub mod Moved
pub mod Permuted
pub mod Ordered
pub mod Turned

pub mod Tiling
pub mod Room
pub mod Halving
pub mod Leaves
pub mod Walks

pub mod Blocks
pub mod Kernels
pub mod Laws

pub mod Leafwise
pub mod Tiled

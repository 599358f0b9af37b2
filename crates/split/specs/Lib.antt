pub mod Tiles
pub mod Regions
pub mod Left
pub mod Laws

pub mod Rules
pub mod Trips

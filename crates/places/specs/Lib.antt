pub mod Places
pub mod Orders
pub mod Turn
pub mod Laws

pub mod Numbers
pub mod Makers
pub mod Tests
pub mod Laws
pub mod Words

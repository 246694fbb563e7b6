pub mod Promise
pub mod Told

pub mod Places
pub mod Halves
pub mod Fills

pub mod Raw
pub mod Heard
pub mod Sounds

pub mod Ranges
pub mod Parts
pub mod Packs
pub mod Entry

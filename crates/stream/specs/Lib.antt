pub mod Accepts
pub mod Depths
pub mod Legal

pub mod Turned
pub mod Steps

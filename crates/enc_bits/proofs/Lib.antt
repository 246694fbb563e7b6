pub mod Digits
pub mod Sent
pub mod Same
mod Around

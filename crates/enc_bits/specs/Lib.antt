pub mod Sent
pub mod Around

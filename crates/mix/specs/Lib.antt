pub mod Finish
pub mod Mixable

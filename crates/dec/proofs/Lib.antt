pub mod Steps
pub mod Whole
pub mod Entry
pub mod Promises

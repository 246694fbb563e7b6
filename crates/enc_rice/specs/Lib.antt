-- One turn of the writer by the rules, and what this crate requires and promises.
pub mod Turn
pub mod Code

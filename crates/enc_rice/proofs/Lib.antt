-- Laws for the proofs of this crate.
mod Codes
mod Turns

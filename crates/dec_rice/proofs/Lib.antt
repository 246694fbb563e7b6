mod Symbols
mod Loop
pub mod Laws

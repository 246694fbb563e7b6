-- Demand 3, said of the two public promises: what the writer answers, how long its packets are, and that reading undoes writing.
pub mod Refused
pub mod Limit
pub mod Round

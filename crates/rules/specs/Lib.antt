-- Document 01 as definitions, a file a section, in its order and its words. No theorem: those are in the crate `laws`.
pub mod Refusals
pub mod Answers
pub mod Bits
pub mod Words
pub mod Stream
pub mod Buffers
pub mod Cookie
pub mod Symbol
pub mod Rice
pub mod Prediction
pub mod Mix
pub mod Element
pub mod Packet
pub mod Reader
pub mod Writer

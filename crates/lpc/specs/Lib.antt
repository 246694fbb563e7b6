pub mod Predicts

pub mod Header
pub mod Plan

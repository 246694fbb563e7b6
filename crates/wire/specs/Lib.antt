pub mod Raw
pub mod Laws

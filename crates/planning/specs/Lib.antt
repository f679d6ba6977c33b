pub mod Serving
pub mod Labels
pub mod Moves
pub mod Plain

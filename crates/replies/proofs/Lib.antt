pub mod Fronts
pub mod Answering
pub mod Histories
pub mod Meanings
pub mod Breaches
pub mod Named
pub mod Printouts

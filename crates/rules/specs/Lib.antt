pub mod Walk
pub mod Layers
pub mod Refusals
pub mod Judged
pub mod Piling
pub mod LayersLemmas

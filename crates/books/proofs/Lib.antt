pub mod Sorting
pub mod Judging
pub mod Piled
pub mod UsSets
pub mod EuSets
pub mod Cases

-- What the contracts of a tree's pick cite beside document 01's definitions.
pub mod Conflict
pub mod Backpressure
pub mod TreeState
pub mod Window
pub mod Asked
pub mod Pick

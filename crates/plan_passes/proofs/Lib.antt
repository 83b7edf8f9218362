-- Laws that the proofs of the passes cite.
pub mod Adding
pub mod PickRows
pub mod Steps
pub mod AskedTrees
pub mod Turns
pub mod Writing
pub mod LaidPicks

-- The laws that the functions' proofs cite, and those that finish and drain cite.
pub mod Changes
pub mod Standing
pub mod OneRow
pub mod Flags
pub mod Counts
pub mod Kept
pub mod Marking
pub mod Putting
pub mod Flagged
pub mod Again
pub mod Stays
pub mod Room

-- Laws that the proofs of finish and drain cite.
pub mod Statuses
pub mod Staying
pub mod Commits
pub mod Leaving

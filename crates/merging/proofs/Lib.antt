-- Laws that the proofs of merging cite, and those that the job rules cite.
pub mod Merged
pub mod Flagged
pub mod Plans

-- The laws that the proofs of several functions cite, and those that callers cite: jobs laid twice, jobs kept, a job put in.
pub mod Standing
pub mod Again
pub mod Fitting
pub mod Flags
pub mod Keeping
pub mod Place
pub mod Inserting

-- Laws that the proofs of the job rules cite.
pub mod Clashes
pub mod Taking
pub mod Answered
pub mod Retaining
pub mod AddCall
pub mod MergeCall

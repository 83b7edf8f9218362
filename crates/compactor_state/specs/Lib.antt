-- What the contracts of the job rules cite beside document 01's definitions.
pub mod Clash
pub mod Taking
pub mod Retention
pub mod Answers
pub mod AddCall
pub mod MergeCall

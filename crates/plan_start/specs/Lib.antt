-- What the contracts of a planning call's start cite beside document 01's definitions.
pub mod Order
pub mod Sizes
pub mod UsedByJobs
pub mod ChainTable

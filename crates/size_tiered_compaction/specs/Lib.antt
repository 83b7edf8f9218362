-- What the contracts of the calls cite beside document 01's definitions.
pub mod LogicalOrder
pub mod Proposing

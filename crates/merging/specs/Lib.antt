-- What the contracts of merging cite beside document 01's definitions.
pub mod Merge

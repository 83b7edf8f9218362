-- What the contracts of the size limit cite beside document 01's definitions.
pub mod Ends

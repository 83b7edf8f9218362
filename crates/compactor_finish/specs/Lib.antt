-- What the contracts of finish and drain cite beside document 01's definitions.
pub mod Finishes
pub mod Ending

-- What the contracts of the passes cite beside document 01's definitions.
pub mod Picks
pub mod Ask
pub mod Passes
pub mod Lay

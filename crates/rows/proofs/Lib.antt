-- The laws that the proofs of several functions cite, and those that callers cite: first of the scans, then of the movers.
pub mod Sums
pub mod Scans
pub mod Order
pub mod Width
pub mod Paste
pub mod Laying
pub mod Pack
pub mod Gap
pub mod Lift
pub mod Shapes
pub mod Falls
pub mod Finds
pub mod Found
pub mod OneTable
pub mod TwoTables

-- The definitions that the contracts of rows cite.
pub mod InSlices
pub mod Found
pub mod Movers
pub mod Shape
pub mod Read
pub mod Refusals

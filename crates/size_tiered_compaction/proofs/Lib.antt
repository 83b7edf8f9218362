-- Laws that the proofs of the calls cite.
pub mod Consecutive
pub mod Lowest
pub mod OneList
pub mod Validated
pub mod PlanRefused
pub mod Starting
pub mod PlanMade

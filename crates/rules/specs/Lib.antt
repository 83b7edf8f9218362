-- Document 01 as definitions. Read in this order.
pub mod Lists
pub mod Tables
pub mod Answers
pub mod Lent
pub mod Bounds
pub mod Limit
pub mod Chain
pub mod Windows
pub mod Pick
pub mod Plan
pub mod Planning
pub mod Validation
pub mod Jobs
pub mod Finish
pub mod Calls
pub mod Figures

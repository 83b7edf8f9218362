-- Laws of the size limit. Other crates cite `Thresholds` and `Grows`.
pub mod Shifts
pub mod Pattern
pub mod Tests
pub mod Fields
pub mod Signs
pub mod Grows
pub mod Thresholds

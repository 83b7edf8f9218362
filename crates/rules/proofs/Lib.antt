-- Laws of the definitions, each once, for every crate above: of tables and rows, of look-ups and refusals, and of the two
-- whole-number ends of the size limit.
pub mod Refused
pub mod Records
pub mod Rows
pub mod Appended
pub mod Laid
pub mod Packed
pub mod ReadBack
pub mod Lookups
pub mod Sorted
pub mod Refusals
pub mod Passes
pub mod Bounds
pub mod Ulids
pub mod Inserting
pub mod Finishing
pub mod Digits
pub mod Nearest
pub mod Rounding
pub mod Singles
pub mod Cutting

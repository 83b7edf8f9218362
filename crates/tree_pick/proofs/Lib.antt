-- Laws that the proofs of a tree's pick cite.
pub mod Appended
pub mod UsedIds
pub mod Chains
pub mod Filling
pub mod ChainTable
pub mod HoldingBack
pub mod Greatest
pub mod Beginnings
pub mod LeastRun
pub mod Clamped
pub mod SizesLeft
pub mod OldestRows
pub mod Parts
pub mod OnePick

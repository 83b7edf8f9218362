-- Laws that the proofs of a planning call's start cite.
pub mod SizeSums
pub mod Counting
pub mod JobRows
pub mod Largest
pub mod FirstFresh
pub mod JobKeys
pub mod Ordering
pub mod AskedRows
pub mod ChainParts

-- The definitions that the contracts of tree_rows cite.
pub mod Change
pub mod Slices
pub mod Table

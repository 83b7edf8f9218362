-- The definitions that the contracts of job_rows cite.
pub mod Table
pub mod Slices

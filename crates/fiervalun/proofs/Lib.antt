-- What the proofs of several C calls cite.
pub mod Promised

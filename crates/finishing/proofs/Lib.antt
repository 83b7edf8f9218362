-- Laws that the proofs of finishing cite, and those that finish and drain cite.
pub mod Finding
pub mod Marks
pub mod Placed
pub mod Pasting

-- What the C calls promise: the same as the calls below them, in C's form.
pub mod Promises

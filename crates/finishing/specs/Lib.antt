-- What the contracts of finishing cite beside document 01's definitions.
pub mod Finding
pub mod Placing
pub mod Flagging

-- The reply to a call, and what is claimed of its numbers.
pub mod Reply
pub mod Claims

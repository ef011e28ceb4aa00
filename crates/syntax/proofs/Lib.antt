-- Laws of the bench's lines, and of writing text into a buffer.
pub mod Reading
pub mod Digits
pub mod Written
mod Listing

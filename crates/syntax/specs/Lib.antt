-- The bench's lines: the grammar of a line of input, and the line printed.
pub mod Forms
pub mod Grammar
pub mod Print

pub mod Cutting
pub mod Nesting
pub mod Operands
pub mod Operation
pub mod Pieces
pub mod Splitting
pub mod Statement
pub mod Unread

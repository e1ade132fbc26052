pub mod Examples
pub mod Listed
pub mod RowText
pub mod Texts

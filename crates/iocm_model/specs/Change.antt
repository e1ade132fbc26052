-- Change: edits and runs of edits, what they do and when they are refused, their inverses and
-- effects, and change trees.
pub mod Edit
pub mod Effect
pub mod Inverse
pub mod InverseTree
pub mod Maps
pub mod Meaning
pub mod Refusal
pub mod Renumbering
pub mod Runs
pub mod Tree

mod Cutting
mod Looked
pub mod Nestings
pub mod Relation
pub mod Runs
mod Same
pub mod Saying
mod Splitting
mod Twins

pub mod Merging
pub mod Whole
mod Asked
mod Rounds
mod Segments
mod SoFar
mod Few
mod Lines
mod Ending
mod OneOrder
mod OneHistory
mod OneAnswer

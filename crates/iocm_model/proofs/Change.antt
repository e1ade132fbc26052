-- Edits, runs of edits, steps between them, and change trees.
pub mod AlteredLives
pub mod EditsGoBack
pub mod InverseCells
pub mod LeastNotQuiet
pub mod Lives
pub mod Nodes
pub mod Refusals
pub mod RunsGoBack
pub mod SameViews
pub mod Steps
pub mod Trees

-- The definitions on lists of entries in the order of their keys, each with the lemma that it
-- agrees: the kit's finite maps don't compute by themselves.
pub mod Effects
pub mod Entries
pub mod Fits
pub mod Histories
pub mod Maps
pub mod Rules
pub mod StandsOn
pub mod States
pub mod Trees
pub mod Views

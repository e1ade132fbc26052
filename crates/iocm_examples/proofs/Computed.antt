-- The examples, computed on lists.
pub mod DefaultLimits
pub mod Edits
pub mod Effects
pub mod FirstRefusals
pub mod Histories
pub mod Numbers
pub mod Paths
pub mod Refusals
pub mod RuleClauses
pub mod Rules
pub mod Runs
pub mod SelectiveUndo
pub mod Stages
pub mod Starts
pub mod Trees
pub mod Views

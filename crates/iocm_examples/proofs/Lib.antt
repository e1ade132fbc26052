pub mod Computed
pub mod Listed
pub mod OnLists
pub mod ComputedRuns
pub mod Fitted
pub mod WhereMet

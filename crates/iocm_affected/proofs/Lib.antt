pub mod Agreement
pub mod Chains
pub mod ChoiceWalks
pub mod InRange
pub mod Leading
pub mod SameKeys
pub mod SameNames
pub mod Unaffected

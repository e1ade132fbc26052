pub mod FirstBreaches
pub mod NameLists
pub mod NearEdits
pub mod NearRules
pub mod OnPaths
pub mod OneChange

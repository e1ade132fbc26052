pub mod FirstFault
pub mod LinesOfKeys
pub mod LinesOfNodes
pub mod TextLines

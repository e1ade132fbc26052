pub mod Change
pub mod Machine
pub mod Maps
pub mod Numbers
pub mod Rules

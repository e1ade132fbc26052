pub mod Change
pub mod Laws
pub mod Machine
pub mod Operation
pub mod Rules

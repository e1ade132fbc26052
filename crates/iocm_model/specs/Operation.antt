-- The machine in operation: its state, the orders, and the steps that they are.
pub mod Orders
pub mod State
pub mod Step

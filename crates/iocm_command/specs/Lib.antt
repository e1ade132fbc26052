pub mod CommandLine
pub mod Plain
pub mod Program

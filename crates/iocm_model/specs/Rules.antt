-- The rules that a configuration in use keeps.
pub mod EachRule
pub mod FirstBreach

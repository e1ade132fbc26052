-- The first breach of the rules.
pub mod FirstBreach
pub mod LeastBreach

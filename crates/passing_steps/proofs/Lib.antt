pub use Rattle.passing_nodes.proofs.Calling
pub use Rattle.passing_nodes.proofs.Counting
pub use Rattle.passing_nodes.proofs.Ordering
pub use Rattle.passing_nodes.proofs.Results
pub use Rattle.passing_nodes.proofs.Returning
pub use Rattle.passing_nodes.proofs.Tagging
pub use Rattle.passing_nodes.proofs.Trees

pub use Rattle.passing_nodes.specs.Named
pub use Rattle.passing_nodes.specs.Numbered
pub use Rattle.passing_nodes.specs.Ordered
pub use Rattle.passing_nodes.specs.Steps
pub use Rattle.passing_nodes.specs.declared.names.Names
pub use Rattle.passing_nodes.specs.declared.nodes.Made
pub use Rattle.passing_nodes.specs.declared.nodes.Source
pub use Rattle.passing_nodes.specs.declared.types.Types

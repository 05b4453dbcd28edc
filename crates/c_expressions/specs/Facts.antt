-- What is known of an expression, as `c_node_facts` has it.
pub use Rattle.c_node_facts.specs.Facts.{fact_of, local_of, leaf_shape}

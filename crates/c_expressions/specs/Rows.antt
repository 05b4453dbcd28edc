-- Arrays of arrays.
use Rattle.std.specs.Prelude.{◌≡◌, ℕ, ◌<◌, false, List, [], ◌∷◌}
use Rattle.c_tree.specs.Types.{Ty, Array, is_array}
use Rattle.c_expressions.specs.declared.making.Rows.{Rows}
use Rattle.c_expressions.specs.declared.nodes.Nodes.{Nodes}
use Rattle.c_expressions.specs.Nodes.{type_in, type_count}

-- rows of so many, the outermost first
abbrev pub rows_type : List ℕ → Ty → Ty
rows_type [] t = t
rows_type (n ∷ ns) t = Array (rows_type ns t) n

pub record IsRows (n : Nodes) (t : ℕ) (r : Rows) : Type 0 where
  pub there : r.of < type_count n
  pub no_array : is_array (type_in n r.of) ≡ false
  pub is : type_in n t ≡ rows_type r.counts.items (type_in n r.of)

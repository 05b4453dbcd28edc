-- How deep the parts of a tree go.
use Rattle.std.specs.Prelude.{ℕ, suc, ◌≤◌, max}
use Rattle.c_tree.specs.Syntax.{Syn, Syns, node, nil, more}
use Rattle.c_elaborator.specs.declared.work.Work.{Work}
use Rattle.c_elaborator.specs.Parts.{IsPart}

-- the number of nodes on the longest way down
abbrev mutual
  pub depth : Syn → ℕ
  depth (node k t xs) = suc (depths xs)

  pub depths : Syns → ℕ
  depths nil = 0
  depths (more x xs) = max (depth x) (depths xs)

-- a node is some part, which goes at most so deep
pub record PartWithin (w : Work) (limit k : ℕ) : Type 0 where
  pub syntax : Syn
  pub is : IsPart w k syntax
  pub within : depth syntax ≤ limit

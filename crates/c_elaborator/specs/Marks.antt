-- What an operand that is not evaluated has added, and that it is dropped.
use Rattle.std.specs.Prelude.{◌≡◌, ℕ, List, length, take}
use Rattle.std.specs.Global.{Vec}
use Rattle.c_tree.specs.declared.typed.Literal.{Literal}
use Rattle.c_elaborator.specs.declared.work.Use.{Use}
use Rattle.c_elaborator.specs.declared.marks.Mark.{Mark}
use Rattle.c_elaborator.specs.declared.work.Work.{Work}

pub record IsMark (w : Work) (m : Mark) : Type 0 where
  pub uses : m.uses ≡ length w.uses.items
  pub addressed : m.addressed ≡ length w.addressed.items
  pub literals : m.literals ≡ length w.nodes.p.literals

-- the work with these uses, addresses and literals
abbrev pub with_those : Work → Vec Use → Vec ℕ → List Literal → Work
with_those w us ks ls = record w {
  nodes = record w.nodes { p = record w.nodes.p { literals = ls } };
  uses = us;
  addressed = ks;
}

-- the first of the uses, addresses and literals stay
pub record IsBack (w : Work) (m : Mark) (v : Work) : Type 0 where
  pub uses : v.uses.items ≡ take m.uses w.uses.items
  pub addressed : v.addressed.items ≡ take m.addressed w.addressed.items
  pub is : v ≡ with_those w v.uses v.addressed (take m.literals w.nodes.p.literals)

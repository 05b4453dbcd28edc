-- What a node of the tree shows of the part of the syntax that it is.
use Rattle.std.specs.Prelude.{◌≡◌}
use Rattle.c_tree.specs.declared.syntax.NodeKind.{NodeKind}
use Rattle.c_tree.specs.Syntax.{Syn, Syns, node, own_token, first_token}
use Rattle.c_types.specs.Stands.{text_at}
use Rattle.c_elaborator.specs.declared.work.Part.{Part}
use Rattle.c_elaborator.specs.declared.work.Work.{Work}
use Rattle.c_elaborator.specs.Parts.{AreParts, TokenFits, PartsFit}

abbrev pub kind_of : Syn → NodeKind
kind_of (node k t xs) = k

abbrev pub syns_of : Syn → Syns
syns_of (node k t xs) = xs

pub record IsNode (w : Work) (p : Part) (x : Syn) : Type 0 where
  pub kind : kind_of x ≡ p.kind
  pub pos : (own_token x).pos ≡ p.name.pos
  pub span : (own_token x).span ≡ p.name.span
  pub text : (own_token x).text ≡ text_at w.file.now p.name.span
  pub fits : TokenFits p.kind (own_token x)
  pub kinds : PartsFit p.kind (syns_of x)
  pub first : (first_token x).pos ≡ p.first
  pub parts : AreParts w p.kids.now (syns_of x)

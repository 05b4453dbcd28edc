-- What cutting a file into tokens and reading them ensure of its syntax (C11 6.4.4, 6.8), so that typing does not ask
-- for it.
use Rattle.std.specs.Prelude.{◌≡◌, ◌≤◌, false, Some}
use Rattle.ck_base.specs.Tokens.{Lexeme}
use Rattle.ck_base.specs.Literals as literal
use Rattle.c_tree.specs.declared.syntax.NodeKind.{NodeKind}
use Rattle.c_tree.specs.declared.syntax.NodeKind.TheVariants as Kinds
use Rattle.c_tree.specs.Syntax.{Syn, Syns, node, nil, more}
use Rattle.c_tree.specs.Values.{integer_of, character_value}
use Rattle.c_tree.specs.Statements.{is_declaration}

-- a part of a statement is a statement (6.8.4, 6.8.5)
abbrev pub IsStatement : Syn → Type 0
IsStatement x = is_declaration x ≡ false

-- A number has a type (6.4.4.1p6), a character constant is a byte (6.4.4.4p9), and the parts of a statement that are
-- statements are no declarations
abbrev pub KindFits : NodeKind → Lexeme → Syns → Type 0
KindFits Kinds.Number t xs = (i : literal.IntegerType) × (literal.type_of (integer_of t.text) ≡ Some i)
KindFits Kinds.Character t xs = character_value t.text ≤ 255
KindFits Kinds.If t (more x (more y ys)) = IsStatement y
KindFits Kinds.IfElse t (more x (more y (more z zs))) = IsStatement y × IsStatement z
KindFits Kinds.While t (more x (more y ys)) = IsStatement y
KindFits Kinds.Do t (more x xs) = IsStatement x
KindFits Kinds.For t (more w (more x (more y (more z zs)))) = IsStatement z
KindFits k t xs = Unit {0}

unfoldable mutual
  pub IsFit : Syn → Type 0
  IsFit (node k t xs) = KindFits k t xs × AreFit xs

  pub AreFit : Syns → Type 0
  AreFit nil = Unit {0}
  AreFit (more x xs) = IsFit x × AreFit xs

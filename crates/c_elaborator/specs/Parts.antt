-- The part of the syntax that a node of the tree is.
use Rattle.std.specs.Prelude.{◌≡◌, ℕ, false, List}
use Rattle.ck_base.specs.declared.tokens.TokenKind.TheVariants.{Word, Number, Char, Text}
use Rattle.ck_base.specs.Tokens.{Lexeme}
use Rattle.ck_base.specs.Lexes.{IsAccepted}
use Rattle.c_tree.specs.declared.syntax.NodeKind.{NodeKind}
use Rattle.c_tree.specs.declared.syntax.NodeKind.TheVariants as Kinds
use Rattle.c_tree.specs.Syntax.{Syn, Syns, node, nil, more, StandsAt, StandAt}
use Rattle.c_tree.specs.Statements.{is_declaration}
use Rattle.c_tree.specs.Typing.{IsSpelled, AreSpelled}
use Rattle.c_types.specs.Stands.{text_at}
use Rattle.c_elaborator.specs.declared.work.Work.{Work}
use Rattle.c_elaborator.specs.declared.work.Name.{Name}

-- names are words, and literals are written as such
abbrev pub TokenFits : NodeKind → Lexeme → Type 0
TokenFits Kinds.Name t = t.kind ≡ Word
TokenFits Kinds.MemberName t = t.kind ≡ Word
TokenFits Kinds.DeclaredName t = t.kind ≡ Word
TokenFits Kinds.TypedefName t = t.kind ≡ Word
TokenFits Kinds.Tag t = t.kind ≡ Word
TokenFits Kinds.Enumerator t = t.kind ≡ Word
TokenFits Kinds.Parameter t = t.kind ≡ Word
TokenFits Kinds.Number t = IsAccepted Number t.text
TokenFits Kinds.Character t = IsAccepted Char t.text
TokenFits Kinds.Text t = IsAccepted Text t.text
TokenFits k t = Unit {0}

-- ---- of what kinds parts are (C11 6.7.2.2, 6.7.6.3, 6.8.4, 6.8.5)

abbrev pub IsOf : NodeKind → Syn → Type 0
IsOf kind (node k t xs) = k ≡ kind

abbrev pub AreOf : NodeKind → Syns → Type 0
AreOf kind nil = Unit {0}
AreOf kind (more x xs) = IsOf kind x × AreOf kind xs

-- enumeration constants, behind the tag if there is one
abbrev pub AreEnumerators : Syns → Type 0
AreEnumerators (more (node Kinds.Tag t ys) xs) = AreOf Kinds.Enumerator xs
AreEnumerators xs = AreOf Kinds.Enumerator xs

-- the parameters of a function declarator stand alone, or behind a declarator
abbrev pub HasParameters : Syns → Type 0
HasParameters nil = Unit {0}
HasParameters (more x nil) = IsOf Kinds.Parameters x
HasParameters (more x (more y ys)) = IsOf Kinds.Parameters y

-- what is a statement in a statement is no declaration
abbrev pub IsStatement : Syn → Type 0
IsStatement x = is_declaration x ≡ false

abbrev pub PartsFit : NodeKind → Syns → Type 0
PartsFit Kinds.Text xs = AreOf Kinds.Text xs
PartsFit Kinds.Enum xs = AreEnumerators xs
PartsFit Kinds.Function xs = HasParameters xs
PartsFit Kinds.Parameters xs = AreOf Kinds.Parameter xs
PartsFit Kinds.If (more x (more y ys)) = IsStatement y
PartsFit Kinds.IfElse (more x (more y (more z zs))) = IsStatement y × IsStatement z
PartsFit Kinds.While (more x (more y ys)) = IsStatement y
PartsFit Kinds.Do (more x xs) = IsStatement x
PartsFit Kinds.For (more w (more x (more y (more z zs)))) = IsStatement z
PartsFit k xs = Unit {0}

unfoldable mutual
  pub IsWritten : Syn → Type 0
  IsWritten (node k t xs) = TokenFits k t × PartsFit k xs × AreWritten xs

  pub AreWritten : Syns → Type 0
  AreWritten nil = Unit {0}
  AreWritten (more x xs) = IsWritten x × AreWritten xs

-- a node, by its number, is this part
pub record IsPart (w : Work) (k : ℕ) (x : Syn) : Type 0 where
  pub stands : StandsAt w.tree.now.nodes k x
  pub spelled : IsSpelled w.file.now x
  pub written : IsWritten x

pub record AreParts (w : Work) (ks : List ℕ) (xs : Syns) : Type 0 where
  pub stand : StandAt w.tree.now.nodes ks xs
  pub spelled : AreSpelled w.file.now xs
  pub written : AreWritten xs

-- a node is some part
pub record HasPart (w : Work) (k : ℕ) : Type 0 where
  pub syntax : Syn
  pub is : IsPart w k syntax

-- these nodes are some parts
pub record HaveParts (w : Work) (ks : List ℕ) : Type 0 where
  pub syntax : Syns
  pub are : AreParts w ks syntax

-- a node is a string literal, and these nodes are some
pub record HasText (w : Work) (k : ℕ) : Type 0 where
  pub syntax : Syn
  pub is : IsPart w k syntax
  pub text : IsOf Kinds.Text syntax

pub record HaveTexts (w : Work) (ks : List ℕ) : Type 0 where
  pub syntax : Syns
  pub are : AreParts w ks syntax
  pub texts : AreOf Kinds.Text syntax

-- the token that a name of the file is
abbrev pub token_of : Work → Name → Lexeme
token_of w n = record { kind = Word; text = text_at w.file.now n.span; span = n.span; pos = n.pos }

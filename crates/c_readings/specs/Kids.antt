-- The parts of a node, and its token.
use Rattle.std.specs.Prelude.{◌≡◌, ℕ, List, [], ◌∷◌, length, Option, Some, None}
use Rattle.ck_base.specs.Tokens.{Lexeme}
use Rattle.c_tree.specs.declared.syntax.Node.{Node}
use Rattle.c_tree.specs.declared.syntax.NodeKind.TheVariants as Kinds
use Rattle.c_tree.specs.Syntax.{Syns, node, nil, more}
use Rattle.c_types.specs.Stands.{text_at}
use Rattle.c_elaborator.specs.declared.work.Work.{Work}
use Rattle.c_elaborator.specs.declared.work.Name.{Name}
use Rattle.c_readings.specs.declared.tree.TagParts.{TagParts}
use Rattle.c_elaborator.specs.Parts.{TokenFits, PartsFit, AreParts, token_of}

abbrev pub name_of : Node → Name
name_of n = record { span = n.text; pos = n.pos }

-- a node has this token and these parts
pub record IsNode (w : Work) (n : Node) (t : Lexeme) (xs : Syns) : Type 0 where
  pub place : t.pos ≡ n.pos
  pub span : t.span ≡ n.text
  pub text : t.text ≡ text_at w.file.now n.text
  pub fits : TokenFits n.kind t
  pub kinds : PartsFit n.kind xs
  pub parts : AreParts w n.kids xs

-- a node is some part's
pub record HasNode (w : Work) (n : Node) : Type 0 where
  pub token : Lexeme
  pub syntax : Syns
  pub is : IsNode w n token syntax

abbrev pub HasNot : ℕ → List ℕ → Type 0
HasNot n ks = length ks ≡ n → ⊥

-- the part that is read last, and those that are read before it: the first of two, or none
abbrev pub HasEnds : List ℕ → List ℕ → ℕ → Type 0
HasEnds [] before last = ⊥
HasEnds (k ∷ []) before last = (before ≡ []) × (last ≡ k)
HasEnds (j ∷ k ∷ ks) before last = (before ≡ j ∷ k ∷ ks) × (last ≡ k)

-- the tag that stands first
abbrev pub tag_of : Syns → Option Lexeme
tag_of (more (node Kinds.Tag t ys) xs) = Some t
tag_of xs = None

abbrev pub tail_of : Syns → Syns
tail_of nil = nil
tail_of (more x xs) = xs

abbrev pub IsTagged : Work → Option TagParts → Syns → Type 0
IsTagged w None xs = tag_of xs ≡ None
IsTagged w (Some x) xs = (tag_of xs ≡ Some (token_of w x.name)) × AreParts w x.others.now (tail_of xs)

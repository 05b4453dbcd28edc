-- The names of calls that are known.
use Rattle.std.specs.Prelude.{◌≡◌, ℕ, ◌+◌, ◌≤◌, max, if◌then◌else◌, List, [], ◌∷◌, ◌++◌, Option, Some, None}
use Rattle.ck_base.specs.declared.positions.Pos.{Pos}
use Rattle.ck_base.specs.declared.positions.Span.{Span}
use Rattle.ck_base.specs.Tokens.{Lexeme}
use Rattle.c_tree.specs.declared.syntax.Node.{Node}
use Rattle.c_tree.specs.declared.syntax.NodeKind.{NodeKind}
use Rattle.c_tree.specs.declared.syntax.NodeKind.TheVariants as Kinds
use Rattle.c_tree.specs.declared.syntax.Tree.{Tree}
use Rattle.c_tree.specs.Syntax.{Syn, Syns, node, nil, more, StandsAt}
use Rattle.c_tree.specs.Passed.{same_place, calls_in}
use Rattle.passing_steps.specs.Names.{Names}
use Rattle.passing_steps.specs.Named.{known_at}

-- the first of some calls that stands at a place
abbrev pub first_at : List Lexeme → Pos → Option Span
first_at [] p = None
first_at (t ∷ ts) p = (if same_place t.pos p then Some t.span else first_at ts p)

-- the names of these calls are known, and no others
pub record Knows (m : Names) (ts : List Lexeme) : Type 0 where
  pub are : (p : Pos) → known_at m p ≡ first_at ts p

-- the call that a node is, if it is one
abbrev pub own_calls : NodeKind → Lexeme → List Lexeme
own_calls Kinds.Call t = t ∷ []
own_calls k t = []

abbrev pub AddsCall : Names → Names → Node → Type 0
AddsCall old new n = (ts : List Lexeme) (t : Lexeme) → t.pos ≡ n.pos → t.span ≡ n.text → Knows old ts →
    Knows new (ts ++ own_calls n.kind t)

-- ---- the parts of a tree

-- the levels of a tree
abbrev mutual
  pub levels : Syn → ℕ
  levels (node k t xs) = deepest xs + 1

  pub deepest : Syns → ℕ
  deepest nil = 0
  deepest (more x xs) = max (levels x) (deepest xs)

-- a part of at most so many levels stands there
pub record IsWithin (tree : Tree) (k n : ℕ) : Type 0 where
  pub syntax : Syn
  pub stands : StandsAt tree.nodes k syntax
  pub within : levels syntax ≤ n

-- the tree is that of some syntax
pub record HasSyntax (tree : Tree) : Type 0 where
  pub syntax : Syn
  pub stands : StandsAt tree.nodes tree.root syntax

-- the calls in a part of a tree are known too
abbrev pub Gathers : Tree → Names → Names → ℕ → Type 0
Gathers tree old new k = (x : Syn) (ts : List Lexeme) → StandsAt tree.nodes k x → Knows old ts →
    Knows new (ts ++ calls_in x)

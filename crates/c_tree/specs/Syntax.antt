-- The syntax of a file as a tree, apart from the list in which its nodes stand.
use Rattle.std.specs.Prelude.{◌≡◌, ℕ, ◌+◌, max, List, [], ◌∷◌, Some, slice_get}
use Rattle.ck_base.specs.Tokens.{Lexeme}
use Rattle.c_tree.specs.declared.syntax.Node.{Node}
use Rattle.c_tree.specs.declared.syntax.NodeKind.{NodeKind}
use Rattle.c_tree.specs.declared.syntax.NodeKind.TheVariants as Kinds

-- A tree: its production, the token that gives its place and text, and its parts in order.
mutual
  pub data Syn : Type 0 where
    node : NodeKind → Lexeme → Syns → Syn

  pub data Syns : Type 0 where
    nil : Syns
    more : Syn → Syns → Syns

abbrev pub one : Syn → Syns
one x = more x nil

abbrev pub two : Syn → Syn → Syns
two x y = more x (more y nil)

abbrev pub three : Syn → Syn → Syn → Syns
three x y z = more x (more y (more z nil))

abbrev pub four : Syn → Syn → Syn → Syn → Syns
four w x y z = more w (more x (more y (more z nil)))

abbrev pub joined : Syns → Syns → Syns
joined nil ys = ys
joined (more x xs) ys = more x (joined xs ys)

-- one more part at the end
abbrev pub then_one : Syns → Syn → Syns
then_one xs y = joined xs (one y)

-- the token of a tree's root
abbrev pub own_token : Syn → Lexeme
own_token (node k t xs) = t

-- What a production counts on the way down: the productions that only gather others for the one above count nothing.
abbrev pub weight : NodeKind → ℕ
weight Kinds.File = 0
weight Kinds.Specifiers = 0
weight (Kinds.Specifier w) = 0
weight Kinds.TypedefName = 0
weight (Kinds.Record w) = 0
weight Kinds.Enum = 0
weight Kinds.Tag = 0
weight Kinds.Qualifiers = 0
weight Kinds.Parameters = 0
weight Kinds.TypeName = 0
weight Kinds.Case = 0
weight Kinds.Default = 0
weight Kinds.Absent = 0
weight _ = 1

-- the greatest count on a way down
abbrev mutual
  pub height : Syn → ℕ
  height (node k t xs) = highest xs + weight k

  pub highest : Syns → ℕ
  highest nil = 0
  highest (more x xs) = max (height x) (highest xs)

-- The first token of a tree. It is the root's own, but where a part stands before that one.
abbrev mutual
  pub first_token : Syn → Lexeme
  first_token (node Kinds.Index t xs) = first_of_parts t xs
  first_token (node Kinds.Call t xs) = first_of_parts t xs
  first_token (node (Kinds.Select s) t xs) = first_of_parts t xs
  first_token (node (Kinds.Postfix s) t xs) = first_of_parts t xs
  first_token (node (Kinds.Infix o) t xs) = first_of_parts t xs
  first_token (node Kinds.Conditional t xs) = first_of_parts t xs
  first_token (node (Kinds.Assignment o) t xs) = first_of_parts t xs
  first_token (node Kinds.OpenArray t xs) = first_of_parts t xs
  first_token (node Kinds.Array t xs) = first_unless_last t xs
  first_token (node Kinds.Function t xs) = first_unless_last t xs
  first_token (node _ t xs) = t

  -- that of the first part, if there is one
  pub first_of_parts : Lexeme → Syns → Lexeme
  first_of_parts t nil = t
  first_of_parts t (more x xs) = first_token x

  -- that of the first part, if it is not the last one
  pub first_unless_last : Lexeme → Syns → Lexeme
  first_unless_last t nil = t
  first_unless_last t (more x nil) = t
  first_unless_last t (more x (more y ys)) = first_token x

-- The tree stands in a list of nodes, with its root at this number.
mutual
  pub data StandsAt (nodes : List Node) : ℕ → Syn → Type 0 where
    stands : {i : ℕ} {n : Node} {t : Lexeme} {xs : Syns} →
        slice_get nodes i ≡ Some n →
        n.pos ≡ t.pos →
        n.text ≡ t.span →
        n.first ≡ (first_token (node n.kind t xs)).pos →
        StandAt nodes n.kids xs →
        StandsAt nodes i (node n.kind t xs)

  -- trees stand there, with their roots at these numbers
  pub data StandAt (nodes : List Node) : List ℕ → Syns → Type 0 where
    none : StandAt nodes [] nil
    next : {i : ℕ} {is : List ℕ} {x : Syn} {xs : Syns} → StandsAt nodes i x → StandAt nodes is xs →
        StandAt nodes (i ∷ is) (more x xs)

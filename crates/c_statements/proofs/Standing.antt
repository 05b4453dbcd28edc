-- What stands behind a declarator, and specifiers and declarators as far as they are seen.
use Rattle.std.proofs.Common.{◌≡◌, ℕ, Bool, true, false, List, [], ◌∷◌, length, map, Option, Some, None, refl, sym, ap}
use Rattle.std.proofs.Common.{subst, ◌∙◌, arith}
use Rattle.std.proofs.lemmas.Bool.{ne_eqb}
use Rattle.std.specs.Prelude.{slice_get, reverse, ◌==◌}
use Rattle.std.specs.Option.{is_some}
use Rattle.ck_base.specs.declared.tokens.TokenKind.TheVariants.{Word}
use Rattle.c_tree.specs.declared.syntax.Node.{Node}
use Rattle.ck_base.specs.Tokens.{Lexeme}
use Rattle.c_tree.specs.declared.syntax.NodeKind.{NodeKind}
use Rattle.c_tree.specs.Syntax.{Syn, Syns, node, nil, more, first_token}
use Rattle.c_tree.specs.Readings as meant
use Rattle.c_tree.specs.Readings.{Reading}
use Rattle.c_tree.specs.Declarations as declarations
use Rattle.c_tree.specs.Declarations.{has_any, is_alone, init_declarator, declare_named, declaration, declare_all}
use Rattle.c_tree.specs.Programs.{reading, readings, reading_of}
use Rattle.c_tree.specs.Scopes.{Doing, refuse, ◌>>=◌}
use Rattle.ck_base.specs.declared.positions.Pos.{Pos}
use Rattle.c_types.specs.Declares.{storage_of}
use Rattle.c_expressions.specs.Nodes.{type_in}
use Rattle.c_elaborator.specs.declared.work.Work.{Work}
use Rattle.c_elaborator.specs.Answers.{Keeps}
use Rattle.c_elaborator.specs.Parts.{IsPart, AreParts}
use Rattle.c_declarators.specs.declared.parts.Specified.{Specified}
use Rattle.c_declarators.specs.declared.parts.Wrap.{Wrap}
use Rattle.c_declarators.specs.declared.parts.Wrap.TheVariants.{Point, Row, Gives}
use Rattle.c_declarators.specs.declared.parts.Derived.{Derived}
use Rattle.c_declarators.specs.Parts.{SpecifiedThere, IsSpecified, IsDerived, AreWraps, any_scope, name_token, param_in}
use Rattle.c_readings.specs.Within.{PartWithin, PartsWithin}
use Rattle.c_readings.proofs.Kids.{cut, no_parts, part_kept, opened}
use Rattle.c_readings.proofs.Within.{first_within, still_within}
use Rattle.c_statements.specs.declared.declarations.Behind.{Behind}
use Rattle.c_statements.specs.Declaring.{HasBehind, IsBehind, IsInitializer, behind_in, declares_list}
use Rattle.c_statements.proofs.Stating.{readings_more, readings_nil}

-- ---- what stands behind a declarator

pub behind_none : (w : Work) (ks : List ℕ) (xs : Syns) → ks ≡ [] → AreParts w ks xs → IsBehind w None (behind_in xs)
behind_none w ks xs e a =
    subst (λ (ys : Syns). IsBehind w None (behind_in ys))
    (sym (no_parts w xs (subst (λ (z : List ℕ). AreParts w z xs) e a))) tt

pub behind_there : {d : ℕ} (w : Work) (ks : List ℕ) (k : ℕ) (rest : List ℕ) → ks ≡ k ∷ rest → PartsWithin w d ks →
    PartWithin w d k
behind_there {d} w ks k rest e h = first_within w k rest (subst (λ (z : List ℕ). PartsWithin w d z) e h)

pub behind_some : (w : Work) (ks : List ℕ) (k : ℕ) (rest : List ℕ) (n : Node) (xs : Syns) → ks ≡ k ∷ rest →
    slice_get w.tree.now.nodes k ≡ Some n → AreParts w ks xs →
    IsBehind w (Some (record { node = k; first = n.first })) (behind_in xs)
behind_some w ks k rest n xs e g a =
    let c = cut w k rest xs (subst (λ (z : List ℕ). AreParts w z xs) e a) in
    let o = opened w k c.head n c.first g in
    let b : Behind = record { node = k; first = n.first } in
    let i : IsInitializer w b (reading c.head, (first_token c.head).pos) =
    record { syntax = c.head; part = c.first; is = ap (λ p. (reading c.head, p)) (sym o.first) } in
    subst (λ (ys : Syns). IsBehind w (Some b) (behind_in ys)) (sym c.is) i

pub has_behind_kept : (d : ℕ) (u v : Work) (o : Option Behind) → Keeps u v → HasBehind u d o → HasBehind v d o
has_behind_kept d u v None k h = tt
has_behind_kept d u v (Some b) k h = still_within u v b.node k h

pub behind_kept : (u v : Work) (o : Option Behind) (b : declarations.Behind) → Keeps u v → IsBehind u o b →
    IsBehind v o b
behind_kept u v None None k h = tt
behind_kept u v (Some x) (Some r) k h =
    record { syntax = h.syntax; part = part_kept u v x.node h.syntax k h.part; is = h.is }
behind_kept u v None (Some r) k h = absurd h
behind_kept u v (Some x) None k h = absurd h

pub behind_given : (u : Work) (o : Option Behind) (b : declarations.Behind) → IsBehind u o b → has_any b ≡ is_some o
behind_given u None None h = refl
behind_given u (Some x) (Some r) h = refl
behind_given u None (Some r) h = absurd h
behind_given u (Some x) None h = absurd h

-- ---- a declarator and its parts

pub reading_node : (k : NodeKind) (t : Lexeme) (xs : Syns) → reading (node k t xs) ≡ reading_of k t xs (readings xs)
unfolding reading
reading_node k t xs = refl

pub declarator_is : (x : Syn) (ys : Syns) (s : meant.Specified) →
    init_declarator (more x ys) (readings (more x ys)) s
    ≡ ((reading x).derived >>= λ d. declare_named s d d.name (behind_in ys))
unfolding init_declarator readings
declarator_is x nil s = refl
declarator_is x (more y ys) s = refl

pub declarator_none : (s : meant.Specified) → init_declarator nil (readings nil) s ≡ refuse 120 s.first.pos
unfolding init_declarator readings
declarator_none s = refl

-- ---- a declaration and its parts

pub declaration_none : (p : Pos) → declaration p (readings nil) ≡ refuse 120 p
unfolding declaration readings
declaration_none p = refl

pub declaration_is : (p : Pos) (x : Syn) (ys : Syns) → declaration p (readings (more x ys)) ≡ declares_list x ys
unfolding declaration readings
declaration_is p x ys = refl

-- no declarator follows
pub alone_is : (w : Work) (ks : List ℕ) (ys : Syns) → AreParts w ks ys → (b : Bool) → b ≡ (length ks == 0) →
    is_alone (readings ys) ≡ b
alone_is w [] ys a b e = ap (λ (zs : Syns). is_alone (readings zs)) (no_parts w ys a) ∙ ap is_alone readings_nil ∙ sym e
alone_is w (k ∷ rest) ys a b e =
    let c = cut w k rest ys a in
    ap (λ (zs : Syns). is_alone (readings zs)) c.is ∙ ap is_alone (readings_more c.head c.tail)
    ∙ sym (e ∙ ne_eqb (length (k ∷ rest)) 0 (λ q. absurd (omega arith)))

-- ---- specifiers

pub some_specified : Work → Specified → meant.Specified
some_specified w s = record {
  first = record {
    kind = Word;
    text = [];
    span = record { start = 0; end = 0 };
    pos = s.first;
  };
  stored = s.stored;
  storage = storage_of s.storage;
  of = type_in w.nodes s.of;
}

pub is_some_specified : (w : Work) (s : Specified) → IsSpecified w s (some_specified w s)
unfolding some_specified
is_some_specified w s = record { first = refl; stored = refl; storage = refl; of = refl }

pub specified_kept : (u v : Work) (s : Specified) (y : meant.Specified) → Keeps u v → SpecifiedThere u s →
    IsSpecified u s y → IsSpecified v s y
specified_kept u v s y k t h =
    record { first = h.first; stored = h.stored; storage = h.storage; of = h.of ∙ sym (k.types s.of t) }

-- ---- declarators

wrap_seen : Work → Wrap → meant.Wrap
wrap_seen w (Point q) = meant.Point q
wrap_seen w (Row n) = meant.Row n
wrap_seen w (Gives p) = meant.Gives (record
    { params = map (param_in w) p.params.items; scope = record { names = []; tags = [] } })

pub some_wraps : Work → List Wrap → List meant.Wrap
some_wraps w ws = map (wrap_seen w) (reverse ws)

pub some_derived : Work → Derived → meant.Derived
some_derived w d = record { name = name_token w d.name; wraps = map (wrap_seen w) (reverse d.wraps.items) }

are_seen : (w : Work) (xs : List Wrap) → AreWraps any_scope w xs (map (wrap_seen w) xs)
unfolding wrap_seen
are_seen w [] = tt
are_seen w (Point q ∷ xs) = (refl, are_seen w xs)
are_seen w (Row n ∷ xs) = (refl, are_seen w xs)
are_seen w (Gives p ∷ xs) = (record { params = refl; scope = tt }, are_seen w xs)

pub is_some_derived : (w : Work) (d : Derived) → IsDerived any_scope w d (some_derived w d)
unfolding some_derived
is_some_derived w d = record { name = refl; wraps = are_seen w (reverse d.wraps.items) }

pub are_some_wraps : (w : Work) (ws : List Wrap) → AreWraps any_scope w (reverse ws) (some_wraps w ws)
unfolding some_wraps
are_some_wraps w ws = are_seen w (reverse ws)

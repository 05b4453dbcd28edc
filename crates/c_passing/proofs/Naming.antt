-- The names of calls, as they are gathered.
use Rattle.std.proofs.Common.{◌≡◌, ℕ, Bool, true, false, cond, List, [], ◌∷◌, ◌++◌, Some, None, refl, sym, ap}
use Rattle.std.proofs.Common.{subst, ◌∙◌, append_assoc}
use Rattle.std.specs.Prelude.{slice_get}
use Rattle.std.specs.Option.{option_or}
use Rattle.std.proofs.lemmas.List.{append-nil}
use Rattle.ck_base.specs.declared.positions.Pos.{Pos}
use Rattle.ck_base.specs.Tokens.{Lexeme}
use Rattle.c_tree.specs.declared.syntax.Node.{Node}
use Rattle.c_tree.specs.declared.syntax.NodeKind.{NodeKind}
use Rattle.c_tree.specs.declared.syntax.NodeKind.TheVariants as Kinds
use Rattle.c_tree.specs.declared.syntax.Tree.{Tree}
use Rattle.c_tree.specs.Syntax.{Syn, Syns, node, nil, more, joined, StandsAt, StandAt, stands, none, next}
use Rattle.c_tree.specs.Passed.{same_place, calls_in, all_calls_in, call_name}
use Rattle.passing_steps.specs.Names.{Names}
use Rattle.c_passing.specs.Named.{first_at, Knows, own_calls, AddsCall, Gathers}
use Rattle.passing_steps.specs.Named.{known_at, AddsName, name_or, name_in}

-- ---- the first call at a place

first-append : (ts us : List Lexeme) (p : Pos) → first_at (ts ++ us) p ≡ option_or (first_at ts p) (first_at us p)
first-append [] us p = refl
first-append (t ∷ ts) us p = by (same_place t.pos p) (first-append ts us p)
  where
    by : (b : Bool) → first_at (ts ++ us) p ≡ option_or (first_at ts p) (first_at us p) →
        cond b (Some t.span) (first_at (ts ++ us) p) ≡ option_or (cond b (Some t.span) (first_at ts p)) (first_at us p)
    by true h = refl
    by false h = h

-- the name of the call at a place is that of the first one
pub first_named : (ts : List Lexeme) (p : Pos) → name_or (first_at ts p) ≡ call_name ts p
first_named [] p = refl
first_named (t ∷ ts) p = by (same_place t.pos p) (first_named ts p)
  where
    by : (b : Bool) → name_or (first_at ts p) ≡ call_name ts p →
        name_or (cond b (Some t.span) (first_at ts p)) ≡ cond b t.span (call_name ts p)
    by true h = refl
    by false h = h

pub named_by : (m : Names) (ts : List Lexeme) → Knows m ts → (p : Pos) → call_name ts p ≡ name_in m p
named_by m ts k p = sym (ap name_or (k.are p) ∙ first_named ts p)

-- one call more is known
pub call_added : (old new : Names) (n : Node) → ((t : Lexeme) → own_calls n.kind t ≡ t ∷ []) →
    AddsName old new n.pos n.text → AddsCall old new n
call_added old new n is a = λ ts t q r k. record {
  are = λ p.
      a.are p ∙ ap (λ o. option_or o (cond (same_place n.pos p) (Some n.text) None)) (k.are p)
      ∙ ap (λ (x : Pos). option_or (first_at ts p) (cond (same_place x p) (Some n.text) None)) (sym q)
      ∙ ap (λ s. option_or (first_at ts p) (cond (same_place t.pos p) (Some s) None)) (sym r)
      ∙ sym (first-append ts (t ∷ []) p) ∙ ap (λ us. first_at (ts ++ us) p) (sym (is t));
}

-- ---- the calls of a tree

pub calls-node : (k : NodeKind) (t : Lexeme) (xs : Syns) → calls_in (node k t xs) ≡ own_calls k t ++ all_calls_in xs
calls-node Kinds.Call t xs = refl
calls-node _ t xs = refl

pub calls-joined : (xs ys : Syns) → all_calls_in (joined xs ys) ≡ all_calls_in xs ++ all_calls_in ys
calls-joined nil ys = refl
calls-joined (more x xs) ys =
    ap (λ zs. calls_in x ++ zs) (calls-joined xs ys)
    ∙ sym (append_assoc (calls_in x) (all_calls_in xs) (all_calls_in ys))

-- the calls of parts of a tree are known too
pub record GathersParts (tree : Tree) (old new : Names) (ks : List ℕ) : Type 0 where
  pub are : (xs : Syns) (ts : List Lexeme) → StandAt tree.nodes ks xs → Knows old ts → Knows new (ts ++ all_calls_in xs)

stand_none : (nodes : List Node) (xs : Syns) → StandAt nodes [] xs → xs ≡ nil
stand_none nodes xs none = refl

stand_push : (nodes : List Node) (ks : List ℕ) (k : ℕ) (zs : Syns) → StandAt nodes (ks ++ k ∷ []) zs →
    (xs : Syns) × (x : Syn) × (zs ≡ joined xs (more x nil)) × StandAt nodes ks xs × StandsAt nodes k x
stand_push nodes [] k (more x xs) (next a b) = (nil, x, ap (λ ys. more x ys) (stand_none nodes xs b), none, a)
stand_push nodes [] k nil s = elim s [ ]
stand_push nodes (j ∷ ks) k nil s = elim s [ ]
stand_push nodes (j ∷ ks) k (more y ys) (next a b) =
    let r = stand_push nodes ks k ys b in
    (more y r.0, r.1, ap (λ zs. more y zs) r.2, next a r.3, r.4)

pub no_parts_gathered : (tree : Tree) (m : Names) → GathersParts tree m m []
no_parts_gathered tree m = record { are = λ xs ts h k. rw (stand_none tree.nodes xs h, append-nil ts) k }

pub part_gathered : (tree : Tree) (old mid new : Names) (ks : List ℕ) (k : ℕ) → GathersParts tree old mid ks →
    Gathers tree mid new k → GathersParts tree old new (ks ++ k ∷ [])
part_gathered tree old mid new ks k g h = record {
  are = λ zs ts st know.
      let r = stand_push tree.nodes ks k zs st in
      let front = all_calls_in r.0 in
      let back = calls_in r.1 in
      let one : all_calls_in zs ≡ front ++ back =
      ap all_calls_in r.2 ∙ calls-joined r.0 (more r.1 nil) ∙ ap (λ ys. front ++ ys) (append-nil back) in
      let all : (ts ++ front) ++ back ≡ ts ++ all_calls_in zs =
      append_assoc ts front back ∙ ap (λ ys. ts ++ ys) (sym one) in
      subst (Knows new) all (h r.1 (ts ++ front) r.4 (g.are r.0 ts r.3 know));
}

opened : (nodes : List Node) (k : ℕ) (x : Syn) (n : Node) → StandsAt nodes k x → slice_get nodes k ≡ Some n →
    (t : Lexeme) × (xs : Syns) × (x ≡ node n.kind t xs) × (t.pos ≡ n.pos) × (t.span ≡ n.text) × StandAt nodes n.kids xs
opened nodes k x n (stands {n = m} {t = t} {xs = xs} e p s f a) g =
    let same : m ≡ n = cc in (
      t,
      xs,
      ap (λ (z : Node). node z.kind t xs) same,
      sym p ∙ ap (λ (z : Node). z.pos) same,
      sym s
          ∙ ap (λ (z : Node). z.text) same,
      subst (λ (z : Node). StandAt nodes z.kids xs) same a,
    )

pub node_gathered : (tree : Tree) (old mid new : Names) (n : Node) (k : ℕ) → slice_get tree.nodes k ≡ Some n →
    AddsCall old mid n → GathersParts tree mid new n.kids → Gathers tree old new k
node_gathered tree old mid new n k e a g = λ x ts st know.
    let o = opened tree.nodes k x n st e in
    let own = own_calls n.kind o.0 in
    let all : (ts ++ own) ++ all_calls_in o.1 ≡ ts ++ calls_in x =
    append_assoc ts own (all_calls_in o.1)
    ∙ ap (λ zs. ts ++ zs) (sym (ap calls_in o.2 ∙ calls-node n.kind o.0 o.1)) in
    subst (Knows new) all (g.are o.1 (ts ++ own) o.5 (a ts o.0 o.3 o.4 know))

pub known_all : (tree : Tree) (old new : Names) → ((p : Pos) → known_at old p ≡ None) →
    Gathers tree old new tree.root → (x : Syn) → StandsAt tree.nodes tree.root x → Knows new (calls_in x)
known_all tree old new e g = λ x st. g x [] st (record { are = e })

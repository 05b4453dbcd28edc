-- A program that goes on with more types, objects and functions: what the work names, and what it shows.
use Rattle.std.proofs.Common.{◌≡◌, ℕ, suc, ◌<◌, ◌≤◌, ⊎_elim, List, [], ◌∷◌, ◌++◌, length, map, Some, None, Option, refl}
use Rattle.std.proofs.Common.{sym, ap, subst, ◌∙◌, arith}
use Rattle.std.specs.Prelude.{slice_get, slice_index_or}
use Rattle.std.specs.Global.{Vec}
use Rattle.ck_base.specs.declared.positions.Pos.{Pos}
use Rattle.c_tree.specs.declared.typed.Expr.{Expr}
use Rattle.c_tree.specs.declared.typed.ExprKind.{ExprKind}
use Rattle.c_tree.specs.declared.typed.ExprKind.TheVariants as exprs
use Rattle.c_tree.specs.declared.typed.Typed.{Typed}
use Rattle.c_tree.specs.Types.{Ty}
use Rattle.c_tree.specs.Terms as tree
use Rattle.c_tree.specs.Terms.{Term, join}
use Rattle.c_tree.specs.Views.{grow, types_of, type_at, kind_term, expr_from, terms_of, term_at, no_term, forest}
use Rattle.c_tree.specs.Views.{stmt_from, no_action, actions_of, action_at}
use Rattle.c_tree.specs.Scopes.{State, with_changed, changed_at}
use Rattle.c_types.specs.Calls.{Extends}
use Rattle.c_types.proofs.Looking.{seen_length}
use Rattle.c_expressions.specs.declared.nodes.Nodes.{Nodes}
use Rattle.c_expressions.specs.Facts.{fact_of}
use Rattle.c_expressions.specs.Nodes.{IsWhole, IsTyped, KindIsTyped, type_count}
use Rattle.c_elaborator.specs.declared.work.Work.{Work}
use Rattle.c_elaborator.specs.declared.work.Definition.{Definition}
use Rattle.c_elaborator.specs.declared.work.Filling.{Filling}
use Rattle.c_elaborator.specs.Work.{IsClosed, ValuesAreThere, DefinitionIsThere, seen_of, definition_of, option_seen}
use Rattle.c_elaborator.specs.Answers.{Keeps}
use Rattle.c_elaborator.proofs.Growing.{definitions_same, seen_same}
use Rattle.c_elaborator.proofs.Using.{changed_same, set_at}

-- expressions, statements and literals stay, and types keep their numbers
pub record GoesOn (p q : Typed) : Type 0 where
  pub exprs : q.exprs ≡ p.exprs
  pub stmts : q.stmts ≡ p.stmts
  pub literals : q.literals ≡ p.literals
  pub count : length p.types ≤ length q.types
  pub types : (k : ℕ) → k < length p.types → type_at (types_of q.types) k ≡ type_at (types_of p.types) k

pub extends_goes_on : (p q : Typed) → Extends p q → GoesOn p q
extends_goes_on p q h = record {
  exprs = h.exprs;
  stmts = h.stmts;
  literals = h.literals;
  count = h.count;
  types = h.types;
}

-- ---- expressions over types

-- types that look alike where an expression names them
AreAlike : List Ty → List Ty → ExprKind → Type 0
AreAlike ts us (exprs.Compound o a b of) = type_at us of ≡ type_at ts of
AreAlike ts us k = Unit {0}

kind-alike : (ts us : List Ty) (k : ExprKind) (t : Ty) (p : Pos) (go : ℕ → Term) → AreAlike ts us k →
    kind_term us k t p go ≡ kind_term ts k t p go
unfolding AreAlike
kind-alike ts us (exprs.Compound o a b of) t p go e = ap (λ u. join (tree.Compound o u) (go a) (go b) t p) e
kind-alike ts us _ t p go e = refl

expr-alike : (ts us : List Ty) (x : Expr) (go : ℕ → Term) → type_at us x.of ≡ type_at ts x.of → AreAlike ts us x.kind →
    expr_from us x go ≡ expr_from ts x go
expr-alike ts us x go e h =
    ap (λ t. kind_term us x.kind t x.pos go) e ∙ kind-alike ts us x.kind (type_at ts x.of) x.pos go h

grow-alike : (ts us : List Ty) (es : List Expr) (acc : List Term) →
    ((k : ℕ) (x : Expr) → slice_get es k ≡ Some x → (type_at us x.of ≡ type_at ts x.of) × AreAlike ts us x.kind) →
    grow (expr_from us) no_term es acc ≡ grow (expr_from ts) no_term es acc
unfolding grow
grow-alike ts us [] acc h = refl
grow-alike ts us (x ∷ es) acc h =
    let a = h 0 x refl in
    let go : ℕ → Term = λ k. slice_index_or acc k no_term in
    ap (λ y. grow (expr_from us) no_term es (acc ++ y ∷ [])) (expr-alike ts us x go a.0 a.1)
    ∙ grow-alike ts us es (acc ++ expr_from ts x go ∷ []) (λ k y g. h (suc k) y g)

typed-alike : (n : ℕ) (ts us : List Ty) (k : ExprKind) → ((j : ℕ) → j < n → type_at us j ≡ type_at ts j) →
    KindIsTyped n k → AreAlike ts us k
unfolding AreAlike
typed-alike n ts us (exprs.Compound o a b of) e h = e of h
typed-alike n ts us _ e h = tt

kind-more : (m n : ℕ) (k : ExprKind) → m ≤ n → KindIsTyped m k → KindIsTyped n k
kind-more m n (exprs.Compound o a b of) le h = omega arith
kind-more m n _ le h = tt

typed-more : (m n k : ℕ) (x : Expr) → m ≤ n → IsTyped m k x → IsTyped n k x
typed-more m n k x le h = record {
  of = let f : x.of < m = h.of in omega arith;
  kind = kind-more m n x.kind le h.kind;
  before = h.before;
}

pub extended_terms : (n : Nodes) (q : Typed) → IsWhole n → GoesOn n.p q → terms_of q ≡ terms_of n.p
extended_terms n q w h =
    let ts = types_of n.p.types in
    let us = types_of q.types in
    ap (λ es. grow (expr_from us) no_term es []) h.exprs
    ∙ grow-alike ts us n.p.exprs [] (λ k x g. let t = w.typed k x g in
    (h.types x.of t.of, typed-alike (length n.p.types) ts us x.kind h.types t.kind))

-- nodes over a program that went on, with the same facts
pub record AreExtended (n m : Nodes) : Type 0 where
  pub program : GoesOn n.p m.p
  pub facts : m.facts ≡ n.facts
  pub void : m.void ≡ n.void
  pub file : m.scopes.file.now ≡ n.scopes.file.now

pub extended_whole : (n m : Nodes) → IsWhole n → AreExtended n m → IsWhole m
extended_whole n m w h =
    let p = h.program in
    let more : type_count n ≤ type_count m = p.count in
    let vt : n.void < type_count n = w.void_there in
    record {
      facts = ap (λ x. x.items) h.facts ∙ w.facts ∙ ap (map fact_of) (sym (extended_terms n m.p w p));
      typed = λ k x g. typed-more (type_count n) (type_count m) k x more (w.typed k x (rw p.exprs at g));
      void_there = rw h.void (omega arith);
      void = rw h.void (p.types n.void vt ∙ w.void);
    }

pub extended_values : (w : Work) (m : Nodes) → AreExtended w.nodes m → ValuesAreThere w →
    ValuesAreThere (record w { nodes = m })
extended_values w m h v k x g j a i = rw h.program.exprs (v k x (rw h.program.stmts at g) j a i)

extended_actions : (n m : Nodes) → IsWhole n → AreExtended n m → actions_of m.p ≡ actions_of n.p
extended_actions n m whole h =
    ap (λ es. forest (stmt_from es) no_action m.p.stmts) (extended_terms n m.p whole h.program)
    ∙ ap (λ ss. forest (stmt_from (terms_of n.p)) no_action ss) h.program.stmts

-- what was named is named still
pub extended_keeps : (w : Work) (m : Nodes) → IsWhole w.nodes → AreExtended w.nodes m → Keeps w (record w { nodes = m })
extended_keeps w m whole h = record {
  more_types = h.program.count;
  more_terms = rw h.program.exprs (omega arith);
  more_actions = rw h.program.stmts (omega arith);
  types = h.program.types;
  terms = λ k l. ap (λ xs. term_at xs k) (extended_terms w.nodes m.p whole h.program);
  values = extended_values w m h;
  actions = λ v k l. ap (λ xs. action_at xs k) (extended_actions w.nodes m whole h);
  file = refl;
  tree = refl;
}

-- definitions of functions show the same
pub extended_definition : (w : Work) (m : Nodes) (s : State) (j : ℕ) → IsWhole w.nodes → AreExtended w.nodes m →
    IsClosed w s →
    option_seen (seen_of (types_of m.p.types) (actions_of m.p)) (definition_of j w.definitions.items)
    ≡ option_seen (seen_of (types_of w.nodes.p.types) (actions_of w.nodes.p)) (definition_of j w.definitions.items)
extended_definition w m s j whole h c =
    definitions_same (seen_of (types_of w.nodes.p.types) (actions_of w.nodes.p))
    (seen_of (types_of m.p.types) (actions_of m.p)) j w.definitions.items
    (λ i d e. let there = c.definitions i d e in
    seen_same (types_of w.nodes.p.types) (types_of m.p.types) (actions_of w.nodes.p) (actions_of m.p) d
    (λ l v q. h.program.types v.of (there.vars l v q))
    (ap (λ xs. action_at xs d.body) (extended_actions w.nodes m whole h)))

pub extended_there : (w : Work) (m : Nodes) (fs : Vec Filling) (s t : State) (d : Definition) → AreExtended w.nodes m →
    length t.routines ≡ length s.routines → DefinitionIsThere w s d →
    DefinitionIsThere (record w { nodes = m; fillings = fs }) t d
extended_there w m fs s t d h e a = record {
  function = rw e a.function;
  body = rw h.program.stmts a.body;
  vars = λ j v g. let f : v.of < type_count w.nodes = a.vars j v g in
      let l : type_count w.nodes ≤ type_count m = h.program.count in omega arith;
}

-- ---- an item of a list that changed

-- what each of the items is is so of a changed one too
pub each_changed : {A : Type 0} (P : ℕ → A → Type 0) (f : A → A) (xs : List A) (k : ℕ) →
    ((j : ℕ) (x : A) → slice_get xs j ≡ Some x → P j x) → ((x : A) → P k x → P k (f x)) →
    (j : ℕ) (y : A) → slice_get (changed_at f xs k) j ≡ Some y → P j y
each_changed {A} P f xs k h q j y e = by-item (slice_get xs k) refl e
  where
    by-item : (o : Option A) → slice_get xs k ≡ o → slice_get (with_changed f o xs k) j ≡ Some y → P j y
    by-item None i g = h j y g
    by-item (Some x) i g =
        ⊎_elim (λ a. subst (λ (n : ℕ). P n y) (sym a.0) (subst (λ (z : A). P k z) a.1 (q x (h k x i)))) (λ b. h j y b.1)
        (set_at xs k j (f x) y g)

pub changed_length : {A : Type 0} (f : A → A) (xs : List A) (k : ℕ) → length (changed_at f xs k) ≡ length xs
changed_length {A} f xs k =
    let one : A → ℕ = λ a. 0 in seen_length one one (changed_at f xs k) xs (changed_same one f xs k (λ a. refl))

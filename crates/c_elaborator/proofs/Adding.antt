-- A new statement stands behind the others, and nothing else changes.
use Rattle.std.proofs.Common.{◌≡◌, ℕ, zero, suc, ◌+◌, ◌<◌, ◌⊎◌, inl, inr, ⊎_elim, List, [], ◌∷◌, ◌++◌, length, Some}
use Rattle.std.proofs.Common.{refl, sym, ap, subst, ◌∙◌, arith, length-append}
use Rattle.std.proofs.Math.ListN.{get_or-append}
use Rattle.std.proofs.Math.Seq.{get_or-append_seam}
use Rattle.std.specs.Prelude.{slice_get}
use Rattle.ck_base.specs.declared.positions.Pos.{Pos}
use Rattle.c_tree.specs.Scopes.{State}
use Rattle.c_tree.specs.Terms.{Action}
use Rattle.c_tree.specs.declared.typed.Stmt.{Stmt}
use Rattle.c_tree.specs.declared.typed.StmtKind.{StmtKind}
use Rattle.c_tree.specs.declared.typed.Typed.{Typed}
use Rattle.c_tree.specs.Views.{grow, stmt_from, kind_action, terms_of, types_of, action_at, actions_of, no_action}
use Rattle.c_tree.specs.Views.{values}
use Rattle.c_interner.proofs.Growing.{grow-append, length-grow}
use Rattle.c_types.specs.declared.scopes.Scopes.{Scopes}
use Rattle.c_types.specs.Stands.{Stands}
use Rattle.c_expressions.specs.Nodes.{IsWhole, term_count}
use Rattle.c_elaborator.specs.declared.work.Work.{Work}
use Rattle.c_elaborator.specs.Work.{Shows, IsClosed, ValuesAreThere, seen_of}
use Rattle.c_elaborator.specs.Answers.{Keeps, action_in, action_count}
use Rattle.c_elaborator.proofs.Growing.{seen_same, definitions_same}
use Rattle.c_elaborator.specs.Items.{ValuesThere, AddsAction}

abbrev pub with_stmts : Work → List Stmt → Work
with_stmts w xs = record w { nodes = record w.nodes { p = record w.nodes.p { stmts = xs } } }

one_more : (p : Typed) (x : Stmt) (ts : List Action) →
    grow (stmt_from (terms_of p)) no_action (x ∷ []) ts ≡ ts ++ stmt_from (terms_of p) x (action_at ts) ∷ []
unfolding grow
one_more p x ts = refl

actions-push : (p : Typed) (x : Stmt) →
    actions_of (record p { stmts = p.stmts ++ x ∷ [] })
    ≡ actions_of p ++ stmt_from (terms_of p) x (action_at (actions_of p)) ∷ []
actions-push p x = grow-append (stmt_from (terms_of p)) no_action p.stmts (x ∷ []) [] ∙ one_more p x (actions_of p)

length-actions_of : (p : Typed) → length (actions_of p) ≡ length p.stmts
length-actions_of p = length-grow (stmt_from (terms_of p)) no_action p.stmts [] ∙ omega arith

slice_get-push : {A : Type 0} (xs : List A) (y : A) (k : ℕ) (x : A) → slice_get (xs ++ y ∷ []) k ≡ Some x →
    (slice_get xs k ≡ Some x) ⊎ (x ≡ y)
slice_get-push [] y zero x e = inr cc
slice_get-push [] y (suc k) x e = absurd cc
slice_get-push (z ∷ xs) y zero x e = inl e
slice_get-push (z ∷ xs) y (suc k) x e = slice_get-push xs y k x e

-- what is declared does not look at statements
stands-stmts : (sc : Scopes) (p : Typed) (xs : List Stmt) (s : State) → Stands sc p s →
    Stands sc (record p { stmts = xs }) s
stands-stmts sc p xs s h = record {
  scopes = h.scopes;
  tags = h.tags;
  tag_types = h.tag_types;
  kinds = h.kinds;
  tagged = h.tagged;
  members = h.members;
  objects = h.objects;
  globals = h.globals;
  begun = h.begun;
  routines = h.routines;
  locals = h.locals;
  int = h.int;
  linked = h.linked;
}

values_push : (w : Work) (x : Stmt) → ValuesThere (term_count w.nodes) x.kind → ValuesAreThere w →
    ValuesAreThere (with_stmts w (w.nodes.p.stmts ++ x ∷ []))
values_push w x t v k y g j a h =
    ⊎_elim (λ b. v k y b j a h) (λ b. t j a (subst (λ (z : Stmt). slice_get (values z.kind) j ≡ Some a) b h))
    (slice_get-push w.nodes.p.stmts x k y g)

action_stays : (w : Work) (x : Stmt) (k : ℕ) → k < action_count w →
    action_in (with_stmts w (w.nodes.p.stmts ++ x ∷ [])) k ≡ action_in w k
action_stays w x k l =
    let p = w.nodes.p in
    let len : length (actions_of p) ≡ length p.stmts = length-actions_of p in
    ap (λ ts. action_at ts k) (actions-push p x)
    ∙ get_or-append (actions_of p) (stmt_from (terms_of p) x (action_at (actions_of p)) ∷ []) no_action k (rw len l)

action_added : (w : Work) (x : Stmt) →
    action_in (with_stmts w (w.nodes.p.stmts ++ x ∷ [])) (length w.nodes.p.stmts)
    ≡ kind_action (terms_of w.nodes.p) x.kind x.pos (action_in w)
action_added w x =
    let p = w.nodes.p in
    let len : length (actions_of p) ≡ length p.stmts = length-actions_of p in
    ap (λ ts. action_at ts (length p.stmts)) (actions-push p x)
    ∙ rw (← len) (get_or-append_seam (actions_of p) (stmt_from (terms_of p) x (action_at (actions_of p))) [] no_action)

keeps_push : (w : Work) (x : Stmt) → ValuesThere (term_count w.nodes) x.kind →
    Keeps w (with_stmts w (w.nodes.p.stmts ++ x ∷ []))
keeps_push w x t =
    let longer : length (w.nodes.p.stmts ++ x ∷ []) ≡ length w.nodes.p.stmts + 1 =
    length-append w.nodes.p.stmts (x ∷ []) in
    record {
      more_types = omega arith;
      more_terms = omega arith;
      more_actions = omega arith;
      types = λ k h. refl;
      terms = λ k h. refl;
      values = values_push w x t;
      actions = λ v k h. action_stays w x k h;
      file = refl;
      tree = refl;
    }

closed_push : (w : Work) (x : Stmt) (s : State) → ValuesThere (term_count w.nodes) x.kind → IsClosed w s →
    IsClosed (with_stmts w (w.nodes.p.stmts ++ x ∷ [])) s
closed_push w x s t h =
    let longer : length (w.nodes.p.stmts ++ x ∷ []) ≡ length w.nodes.p.stmts + 1 =
    length-append w.nodes.p.stmts (x ∷ []) in
    record {
      file = h.file;
      members = h.members;
      values = values_push w x t h.values;
      uses = h.uses;
      addressed = h.addressed;
      fillings = h.fillings;
      definitions = λ k d g. let there = h.definitions k d g in
          record {
            function = there.function;
            body = (let b : d.body < length w.nodes.p.stmts = there.body in omega arith);
            vars = there.vars;
          };
    }

shows_push : (w : Work) (x : Stmt) (s : State) → ValuesThere (term_count w.nodes) x.kind → Shows w s →
    Shows (with_stmts w (w.nodes.p.stmts ++ x ∷ [])) s
shows_push w x s t h =
    let v = with_stmts w (w.nodes.p.stmts ++ x ∷ []) in
    record {
      stands = stands-stmts w.nodes.scopes w.nodes.p (w.nodes.p.stmts ++ x ∷ []) s h.stands;
      texts = h.texts;
      used_objects = h.used_objects;
      used_functions = h.used_functions;
      addressed = h.addressed;
      fillings = h.fillings;
      definitions = λ j f g. h.definitions j f g
          ∙ sym (definitions_same (seen_of (types_of w.nodes.p.types) (actions_of w.nodes.p))
          (seen_of (types_of w.nodes.p.types) (actions_of v.nodes.p)) j w.definitions.items
          (λ i d e. let there = h.closed.definitions i d e in
          seen_same (types_of w.nodes.p.types) (types_of w.nodes.p.types) (actions_of w.nodes.p)
          (actions_of v.nodes.p) d (λ l y q. refl) (action_stays w x d.body there.body)));
      waiting = h.waiting;
      closed = closed_push w x s t h.closed;
    }

whole_push : (w : Work) (xs : List Stmt) → IsWhole w.nodes → IsWhole (with_stmts w xs).nodes
whole_push w xs h = record { facts = h.facts; typed = h.typed; void_there = h.void_there; void = h.void }

pub adds_action : (w : Work) (xs : List Stmt) (k : ℕ) (kind : StmtKind) (p : Pos) → IsWhole w.nodes →
    ValuesThere (term_count w.nodes) kind → xs ≡ w.nodes.p.stmts ++ record { kind = kind; pos = p } ∷ [] →
    k ≡ length w.nodes.p.stmts →
    AddsAction w (with_stmts w xs) k (kind_action (terms_of w.nodes.p) kind p (action_in w))
adds_action w xs k kind p h t e n =
    let x : Stmt = record { kind = kind; pos = p } in
    let longer : length (w.nodes.p.stmts ++ x ∷ []) ≡ length w.nodes.p.stmts + 1 =
    length-append w.nodes.p.stmts (x ∷ []) in
    subst (λ (ys : List Stmt). AddsAction w (with_stmts w ys) k (kind_action (terms_of w.nodes.p) kind p (action_in w)))
    (sym e)
    (subst (λ (j : ℕ). AddsAction w (with_stmts w (w.nodes.p.stmts ++ x ∷ [])) j
    (kind_action (terms_of w.nodes.p) kind p (action_in w))) (sym n)
    (record {
      whole = whole_push w (w.nodes.p.stmts ++ x ∷ []) h;
      keeps = keeps_push w x t;
      there = omega arith;
      is = action_added w x;
      shows = λ s. shows_push w x s t;
    }))

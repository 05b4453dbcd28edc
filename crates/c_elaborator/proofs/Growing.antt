-- How what was built so far grows, and that it stands for the same state then.
use Rattle.std.proofs.Common.{◌≡◌, ℕ, suc, ◌<◌, ◌≤◌, true, false, List, [], ◌∷◌, ◌++◌, length, map, Option, Some, None}
use Rattle.std.proofs.Common.{refl, sym, ap, ◌∙◌, arith, append_assoc}
use Rattle.std.specs.Prelude.{slice_get, slice_index_or, ◌==◌, if◌then◌else◌, fold}
use Rattle.std.proofs.lemmas.List.{append-nil}
use Rattle.ck_base.specs.declared.positions.Pos.{Pos}
use Rattle.c_tree.specs.declared.typed.Stmt.{Stmt}
use Rattle.c_tree.specs.declared.typed.StmtKind.{StmtKind}
use Rattle.c_tree.specs.declared.typed.StmtKind.TheVariants as stmts
use Rattle.c_tree.specs.declared.typed.VarDef.{VarDef}
use Rattle.c_tree.specs.declared.typed.Typed.{Typed}
use Rattle.c_tree.specs.Types.{Ty}
use Rattle.c_tree.specs.Terms as tree
use Rattle.c_tree.specs.Terms.{Term, Action, action, actions, terms, Variable}
use Rattle.c_tree.specs.Views.{grow, stmt_from, kind_action, term_at, terms_of, type_at, types_of, action_at}
use Rattle.c_tree.specs.Views.{actions_of, no_action, values, variable_of, text_of, listed, label_of}
use Rattle.c_tree.specs.Scopes.{State}
use Rattle.c_expressions.specs.declared.nodes.Nodes.{Nodes}
use Rattle.c_expressions.specs.Nodes.{type_count, term_count}
use Rattle.c_expressions.specs.Nodes as nodes
use Rattle.c_elaborator.specs.declared.work.Work.{Work}
use Rattle.c_elaborator.specs.declared.work.Definition.{Definition}
use Rattle.c_elaborator.specs.Work.{Shows, IsClosed, DefinitionIsThere, ValuesAreThere, Seen, seen_of, definition_of}
use Rattle.c_elaborator.specs.Work.{option_seen}
use Rattle.c_elaborator.specs.Answers.{Begins, Keeps, Quiet}

-- ---- statements over expressions

kind_same : (es fs : List Term) (k : StmtKind) (p : Pos) (go : ℕ → Action) →
    ((j a : ℕ) → slice_get (values k) j ≡ Some a → term_at fs a ≡ term_at es a) →
    kind_action fs k p go ≡ kind_action es k p go
kind_same es fs (stmts.Expr a) p go h = ap (λ x. action tree.Evaluate (terms (x ∷ [])) (actions []) p) (h 0 a refl)
kind_same es fs (stmts.Init var offset a) p go h =
    ap (λ x. action (tree.Init var offset) (terms (x ∷ [])) (actions []) p) (h 0 a refl)
kind_same es fs (stmts.Block vars body) p go h = refl
kind_same es fs (stmts.If a x y) p go h =
    ap (λ z. action tree.If (terms (z ∷ [])) (actions (go x ∷ listed go y)) p) (h 0 a refl)
kind_same es fs (stmts.While a x) p go h =
    ap (λ z. action tree.While (terms (z ∷ [])) (actions (go x ∷ [])) p) (h 0 a refl)
kind_same es fs (stmts.Do x a) p go h = ap (λ z. action tree.Do (terms (z ∷ [])) (actions (go x ∷ [])) p) (h 0 a refl)
kind_same es fs (stmts.For vars first None None x) p go h = refl
kind_same es fs (stmts.For vars first None (Some b) x) p go h =
    ap (λ z. action (tree.For vars (length first) false true) (terms (z ∷ [])) (actions (map go first ++ go x ∷ [])) p)
    (h 0 b refl)
kind_same es fs (stmts.For vars first (Some a) None x) p go h =
    ap (λ z. action (tree.For vars (length first) true false) (terms (z ∷ [])) (actions (map go first ++ go x ∷ [])) p)
    (h 0 a refl)
kind_same es fs (stmts.For vars first (Some a) (Some b) x) p go h =
    ap (λ z. action (tree.For vars (length first) true true) (terms (z ∷ term_at fs b ∷ []))
    (actions (map go first ++ go x ∷ [])) p) (h 0 a refl)
    ∙ ap (λ z. action (tree.For vars (length first) true true) (terms (term_at es a ∷ z ∷ []))
    (actions (map go first ++ go x ∷ [])) p) (h 1 b refl)
kind_same es fs (stmts.Switch a vars labels body) p go h =
    ap (λ z. action (tree.Switch vars (map label_of labels)) (terms (z ∷ [])) (actions (map go body)) p) (h 0 a refl)
kind_same es fs stmts.Break p go h = refl
kind_same es fs stmts.Continue p go h = refl
kind_same es fs (stmts.Return None) p go h = refl
kind_same es fs (stmts.Return (Some a)) p go h =
    ap (λ z. action tree.Return (terms (z ∷ [])) (actions []) p) (h 0 a refl)
kind_same es fs stmts.Empty p go h = refl

grow-same : {N T : Type 0} (make other : N → (ℕ → T) → T) (bad : T) (ns : List N) (ts : List T) →
    ((k : ℕ) (n : N) (go : ℕ → T) → slice_get ns k ≡ Some n → other n go ≡ make n go) →
    grow other bad ns ts ≡ grow make bad ns ts
unfolding grow
grow-same make other bad [] ts h = refl
grow-same {N} {T} make other bad (n ∷ ns) ts h =
    let go : ℕ → T = λ k. slice_index_or ts k bad in
    ap (λ y. grow other bad ns (ts ++ y ∷ [])) (h 0 n go refl)
    ∙ grow-same make other bad ns (ts ++ make n go ∷ []) (λ k m f g. h (suc k) m f g)

actions_same : (p q : Typed) → q.stmts ≡ p.stmts →
    ((k : ℕ) (x : Stmt) → slice_get p.stmts k ≡ Some x → (j a : ℕ) → slice_get (values x.kind) j ≡ Some a →
    a < length p.exprs) →
    ((a : ℕ) → a < length p.exprs → term_at (terms_of q) a ≡ term_at (terms_of p) a) → actions_of q ≡ actions_of p
actions_same p q e v t =
    ap (λ xs. grow (stmt_from (terms_of q)) no_action xs []) e
    ∙ grow-same (stmt_from (terms_of p)) (stmt_from (terms_of q)) no_action p.stmts []
    (λ k x go g. kind_same (terms_of p) (terms_of q) x.kind x.pos go (λ j a i. t a (v k x g j a i)))

-- ---- definitions of functions

vars_same : (ts us : List Ty) (vs : List VarDef) →
    ((k : ℕ) (v : VarDef) → slice_get vs k ≡ Some v → type_at us v.of ≡ type_at ts v.of) →
    map (variable_of us) vs ≡ map (variable_of ts) vs
vars_same ts us [] h = refl
vars_same ts us (v ∷ vs) h =
    ap (λ (t : Ty). (let x : Variable = record { name = v.name; place = v.pos; of = t; simple = v.simple } in x)
    ∷ map (variable_of us) vs) (h 0 v refl)
    ∙ ap (λ xs. variable_of ts v ∷ xs) (vars_same ts us vs (λ k w g. h (suc k) w g))

pub seen_same : (ts us : List Ty) (xs ys : List Action) (d : Definition) →
    ((k : ℕ) (v : VarDef) → slice_get d.vars.items k ≡ Some v → type_at us v.of ≡ type_at ts v.of) →
    action_at ys d.body ≡ action_at xs d.body → seen_of us ys d ≡ seen_of ts xs d
seen_same ts us xs ys d h e =
    ap (λ vs. (let x : Seen = record { params = d.params.items; vars = vs; body = action_at ys d.body } in x))
    (vars_same ts us d.vars.items h)
    ∙ ap (λ b. (let x : Seen = record { params = d.params.items; vars = map (variable_of ts) d.vars.items; body = b } in
    x)) e

-- also where a definition was found among those before
definitions_from : (f g : Definition → Seen) (j : ℕ) (ds : List Definition) (o : Option Definition) →
    option_seen g o ≡ option_seen f o → ((k : ℕ) (d : Definition) → slice_get ds k ≡ Some d → g d ≡ f d) →
    option_seen g (fold (λ o (d : Definition). if d.function == j then Some d else o) o ds)
    ≡ option_seen f (fold (λ o (d : Definition). if d.function == j then Some d else o) o ds)
definitions_from f g j [] o e h = e
definitions_from f g j (d ∷ ds) o e h =
    definitions_from f g j ds (if d.function == j then Some d else o)
    (elim (d.function == j) as (λ b. option_seen g (if b then Some d else o) ≡ option_seen f (if b then Some d else o))
    [ true ↦ ap (λ x. Some x) (h 0 d refl) | false ↦ e ]) (λ k x i. h (suc k) x i)

pub definitions_same : (f g : Definition → Seen) (j : ℕ) (ds : List Definition) →
    ((k : ℕ) (d : Definition) → slice_get ds k ≡ Some d → g d ≡ f d) →
    option_seen g (definition_of j ds) ≡ option_seen f (definition_of j ds)
definitions_same f g j ds h = definitions_from f g j ds None refl h

-- ---- more types and expressions

pub literals_same : (p q : Typed) → nodes.Grows p q → q.literals ≡ p.literals
literals_same p q g = ap (λ (x : Typed). x.literals) g.is

pub stmts_same : (p q : Typed) → nodes.Grows p q → q.stmts ≡ p.stmts
stmts_same p q g = ap (λ (x : Typed). x.stmts) g.is

pub values_kept : (w : Work) (n : Nodes) → nodes.Keeps w.nodes n → ValuesAreThere w →
    ValuesAreThere (record w { nodes = n })
values_kept w n k v i x g j a h =
    let m : term_count w.nodes ≤ term_count n = k.more_terms in
    let f : a < term_count w.nodes = v i x (rw (stmts_same w.nodes.p n.p k.grows) at g) j a h in
    omega arith

pub actions_kept : (w : Work) (n : Nodes) → nodes.Keeps w.nodes n → ValuesAreThere w →
    actions_of n.p ≡ actions_of w.nodes.p
actions_kept w n k v = actions_same w.nodes.p n.p (stmts_same w.nodes.p n.p k.grows) v k.terms

pub keeps_nodes : (w : Work) (n : Nodes) → nodes.Keeps w.nodes n → Keeps w (record w { nodes = n })
keeps_nodes w n k = record {
  more_types = k.more_types;
  more_terms = k.more_terms;
  more_actions = rw (stmts_same w.nodes.p n.p k.grows) (omega arith);
  types = k.types;
  terms = k.terms;
  values = values_kept w n k;
  actions = λ v j h. ap (λ xs. action_at xs j) (actions_kept w n k v);
  file = refl;
  tree = refl;
}

pub begins_same : {A : Type 0} (xs : List A) → Begins xs xs
begins_same xs = ([], sym (append-nil xs))

pub begins_then : {A : Type 0} (xs ys zs : List A) → Begins xs ys → Begins ys zs → Begins xs zs
begins_then xs ys zs a b = (a.0 ++ b.0, b.1 ∙ ap (λ l. l ++ b.0) a.1 ∙ append_assoc xs a.0 b.0)

pub quiet_nodes : (w : Work) (n : Nodes) → nodes.Keeps w.nodes n → Quiet w (record w { nodes = n })
quiet_nodes w n k = record {
  keeps = keeps_nodes w n k;
  literals = ([], literals_same w.nodes.p n.p k.grows ∙ sym (append-nil w.nodes.p.literals));
  uses = begins_same w.uses.items;
  addressed = begins_same w.addressed.items;
  fillings = refl;
  definitions = refl;
  waiting = refl;
}

definition_there : (w : Work) (n : Nodes) (s : State) (d : Definition) → nodes.Keeps w.nodes n →
    DefinitionIsThere w s d → DefinitionIsThere (record w { nodes = n }) s d
definition_there w n s d k h = record {
  function = h.function;
  body = rw (stmts_same w.nodes.p n.p k.grows) h.body;
  vars = λ j v g. let f : v.of < type_count w.nodes = h.vars j v g in
      let m : type_count w.nodes ≤ type_count n = k.more_types in omega arith;
}

closed_nodes : (w : Work) (n : Nodes) (s : State) → nodes.Keeps w.nodes n → IsClosed w s →
    IsClosed (record w { nodes = n }) s
closed_nodes w n s k h = record {
  file = k.file ∙ h.file;
  members = h.members;
  values = values_kept w n k h.values;
  uses = h.uses;
  addressed = h.addressed;
  fillings = h.fillings;
  definitions = λ j d g. definition_there w n s d k (h.definitions j d g);
}

pub shows_nodes : (w : Work) (n : Nodes) (s : State) → nodes.Keeps w.nodes n → Shows w s →
    Shows (record w { nodes = n }) s
shows_nodes w n s k h = record {
  stands = k.stands s h.stands;
  texts = ap (map text_of) (literals_same w.nodes.p n.p k.grows) ∙ h.texts;
  used_objects = h.used_objects;
  used_functions = h.used_functions;
  addressed = h.addressed;
  fillings = h.fillings;
  definitions = λ j f g. h.definitions j f g
      ∙ sym (definitions_same (seen_of (types_of w.nodes.p.types) (actions_of w.nodes.p))
      (seen_of (types_of n.p.types) (actions_of n.p)) j w.definitions.items
      (λ i d e. let there = h.closed.definitions i d e in
      seen_same (types_of w.nodes.p.types) (types_of n.p.types) (actions_of w.nodes.p) (actions_of n.p) d
      (λ l v q. k.types v.of (there.vars l v q))
      (ap (λ xs. action_at xs d.body) (actions_kept w n k h.closed.values))));
  waiting = h.waiting;
  closed = closed_nodes w n s k h.closed;
}

-- Statements (C11 6.8).
use Rattle.std.proofs.Common.{◌≡◌, ℕ, zero, suc, ◌+◌, ◌≤◌, Bool, true, false, List, [], ◌∷◌, ◌++◌, length, Option, Some}
use Rattle.std.proofs.Common.{Ok, refl, sym, ap, subst, ◌∙◌, inl, inr, ◌⊎◌, arith, length-append}
use Rattle.std.specs.Prelude.{slice_get, not, if◌then◌else◌}
use Rattle.std.proofs.lemmas.Bool.{false≢true, true≢false}
use Rattle.std.proofs.lemmas.List.{append-nil}
use Rattle.std.proofs.lemmas.Option.{same_Some, slice_get_within}
use Rattle.ck_base.specs.declared.positions.Pos.{Pos}
use Rattle.ck_base.specs.Tokens.{Lexeme}
use Rattle.c_tree.specs.declared.syntax.NodeKind.{NodeKind}
use Rattle.c_tree.specs.declared.syntax.NodeKind.TheVariants as Kinds
use Rattle.c_tree.specs.Syntax.{Syn, Syns, node, nil, more, first_token}
use Rattle.c_tree.specs.Types.{Ty, bare, is_integer, is_scalar, is_void, promoted}
use Rattle.c_tree.specs.Terms.{Label, Term, Terms, no_terms, type_of, Form, Evaluate, Block, If, While, Do, For, Switch}
use Rattle.c_tree.specs.Terms.{Break, Continue, Return, Empty, Action, Actions, action, no_actions, actions}
use Rattle.c_tree.specs.Scopes.{Entity, Local, Static, Routine, Alias, Enumerator, Named, Scope, State, Doing, give}
use Rattle.c_tree.specs.Scopes.{refuse, need, change, ◌>>=◌, ◌>>◌, outer_scopes, enter, leave, in_scope}
use Rattle.c_tree.specs.Scopes as scopes
use Rattle.c_tree.specs.Conversions.{Operand, operand_type, converted_term, assigned}
use Rattle.c_tree.specs.Readings.{Context, Items, Reading}
use Rattle.c_tree.specs.Expressions.{read_value, condition}
use Rattle.c_tree.specs.Declarations.{no_items, both, file_names}
use Rattle.c_tree.specs.Statements.{one_action, does, one_term, all_items, block_action, substatement, test, in_a_loop}
use Rattle.c_tree.specs.Statements.{in_a_switch, is_absent, is_declaration, first_part, optional_test, optional_step}
use Rattle.c_tree.specs.Statements.{has_one, list_terms, for_action, for_of, Cases, has_label, add_label, labels, place}
use Rattle.c_tree.specs.Statements.{switch_item, switch_items, no_cases, switch_of, statement_of}
use Rattle.typing_laws.specs.Fitting.{KindFits, IsStatement}
use Rattle.c_tree.specs.Views.{times_in}
use Rattle.c_tree.specs.WellTyped.{holds, Inside, inside_of, count_of, TestsFit, LabelsFit, form_vars, all_declared}
use Rattle.typing_laws.proofs.Facts.{TypeOk, TermOk, TermsOk, ValueOk, EntityOk, AllScopes, Refers, Inv, Grows, Kept}
use Rattle.typing_laws.proofs.Growing.{type_kept, value_kept, refers_self, refers_on, grows_self, grows_on, grows_loose}
use Rattle.typing_laws.proofs.Growing.{scopes_more}
use Rattle.typing_laws.proofs.Steps.{ok_is, given, needed, refused, first_then, needed_in, either}
use Rattle.typing_laws.proofs.Scalars.{promoted_integer, promoted_self}
use Rattle.typing_laws.proofs.Converted.{to_integer, assigned_ok}
use Rattle.typing_laws.proofs.Operators.{onward, condition_ok}
use Rattle.typing_laws.proofs.Evaluated.{ReadsExpression, read_ok}
use Rattle.typing_laws.proofs.Tags.{AllDeclared}
use Rattle.typing_laws.proofs.Acts.{complete_on, FormOk, AreLocals, ActionsOk, actions_kept, are_locals_kept, between}
use Rattle.typing_laws.proofs.Acts.{between_none, times_declared, inside_context, ItemsOk, IsOne, items_both}
use Rattle.typing_laws.proofs.Acts.{items_none}
use Rattle.typing_laws.proofs.Acts.{items_from, times_in-append}
use Rattle.typing_laws.proofs.Placed.{follows, begins_on, initials_self}
use Rattle.typing_laws.proofs.Wholes.{AllFiles, Strict, files_more, bodies_on, strict_still}
use Rattle.typing_laws.proofs.Declared.{Done, AllDeclareAs, declaration_ok}

-- ---- parts of the syntax as statements

-- what the function gives has no qualifier
pub record ContextOk (s : State) (c : Context) : Type 0 where
  pub type : TypeOk s.tags c.gives
  pub bare : bare c.gives ≡ c.gives

pub context_kept : (s r : State) → Grows false s r → (c : Context) → ContextOk s c → ContextOk r c
context_kept s r g c h = record { type = type_kept s.tags r.tags g.refers.tags c.gives h.type; bare = h.bare }

-- the items of a statement or declaration, and what holds of the file behind them
pub record Stated (decl : Bool) (c : Context) (s : State) (y : Items × State) : Type 0 where
  pub kept : Kept true false s (λ q i. ItemsOk c s q i) y
  pub strict : Strict y.1
  pub one : decl ≡ false → IsOne y.0
  pub any : decl ≡ true → (d : Context) → Kept true false s (λ q i. ItemsOk d s q i) y

pub record ReadsItem (x : Syn) (r : Reading) : Type 0 where
  pub expression : ReadsExpression r
  pub item : (c : Context) (s : State) → ContextOk s c → Inv true s → Strict s → (y : Items × State) →
      r.item c s ≡ Ok y → Stated (is_declaration x) c s y
  pub label : (of : Ty) (s : State) → Inv true s → (y : Option ℕ × State) → r.label of s ≡ Ok y →
      Kept true true s (λ q v. Unit {0}) y

abbrev pub AllItems : Syns → List Reading → Type 0
AllItems nil [] = Unit {0}
AllItems (more x xs) (r ∷ rs) = ReadsItem x r × AllItems xs rs
AllItems xs rs = ⊥

-- items, and what holds of the file behind them
abbrev pub Itemed : Context → State → Items × State → Type 0
Itemed c s y = Kept true false s (λ q i. ItemsOk c s q i) y × Strict y.1

-- ---- one statement

module _ (k : ℕ) where
  times_one : (f : Form) (xs : Terms) (ys : Actions) (p : Pos) →
      times_declared k [] (action f xs ys p ∷ []) ≡ times_in k (form_vars f) + times_in k (all_declared ys)
  times_one f xs ys p =
      let a = times_in-append k (form_vars f) (all_declared ys) in
      let b = ap (times_in k) (append-nil (form_vars f ++ all_declared ys)) in
      omega (arith, a, b)

one_form : (c : Context) (s q : State) (f : Form) (xs : Terms) (ys : Actions) (p : Pos) → TermsOk true q xs →
    FormOk q c.gives (inside_context c) f xs (count_of ys) → ActionsOk q c.gives (inside_of f (inside_context c)) ys →
    length s.locals ≤ length q.locals →
    ((k : ℕ) → times_in k (form_vars f) + times_in k (all_declared ys)
    ≡ between (length s.locals) (length q.locals) k) →
    ((k : ℕ) (v : scopes.LocalState) → length s.locals ≤ k → slice_get q.locals k ≡ Some v →
    Rattle.typing_laws.proofs.Facts.Complete q.tags v.of) → ItemsOk c s q (one_action (action f xs ys p))
one_form c s q f xs ys p h g j l o z =
    record {
      fits = ((h, g, j), tt);
      vars = λ j k e. absurd cc;
      more = l;
      once = λ k. times_one k f xs ys p ∙ o k;
      complete = z;
    }

-- a statement without parts, in a state that has no new variables
plain_form : (c : Context) (s q : State) (f : Form) (xs : Terms) (p : Pos) → length q.locals ≡ length s.locals →
    form_vars f ≡ [] → TermsOk true q xs → FormOk q c.gives (inside_context c) f xs 0 →
    ItemsOk c s q (one_action (action f xs no_actions p))
plain_form c s q f xs p l v h g =
    let n = items_none c q in
    one_form c s q f xs no_actions p h g tt (omega (arith, l))
    (λ k. let a = between_none (length s.locals) k in let b = ap (times_in k) v in
    ap (λ n. n + 0) b ∙ sym a ∙ ap (λ n. between (length s.locals) n k) (sym l))
    (λ k v le e. n.complete k v (omega (arith, le, l)) e)

-- ---- scopes

abbrev inside_scope : State → State
inside_scope s = record s { scopes = record { names = []; tags = [] } ∷ s.scopes }

abbrev outside_scope : State → State
outside_scope s = record s { scopes = outer_scopes s.scopes }

scopes_change : (s : State) (cs : List Scope) → Refers s (record s { scopes = cs })
scopes_change s cs = record {
  tags = (refers_self s).tags;
  statics = (refers_self s).statics;
  routines = (refers_self s).routines;
  texts = λ k x q. q;
  locals = (refers_self s).locals;
}

entity_elsewhere : (m : Bool) (s : State) (cs : List Scope) (e : Entity) → EntityOk m s e →
    EntityOk m (record s { scopes = cs }) e
entity_elsewhere m s cs (Local k t) h = h
entity_elsewhere m s cs (Static k) h = h
entity_elsewhere m s cs (Routine k) h = h
entity_elsewhere m s cs (Alias t) h = h
entity_elsewhere m s cs (Enumerator z) h = h
entity_elsewhere m s cs (scopes.Library k t) h = h

pub inv_elsewhere : (m : Bool) (s : State) (cs : List Scope) → AllScopes (EntityOk m s) cs → Inv m s →
    Inv m (record s { scopes = cs })
inv_elsewhere m s cs h i =
    record {
      tags = i.tags;
      names = scopes_more (EntityOk m s) (EntityOk m (record s { scopes = cs }))
          (entity_elsewhere m s cs) cs h;
      statics = i.statics;
      routines = i.routines;
      locals = i.locals;
    }

pub strict_elsewhere : (s : State) (cs : List Scope) → AllFiles s (file_names cs) → Strict s →
    Strict (record s { scopes = cs })
strict_elsewhere s cs h w = record {
  files = files_more s (record s { scopes = cs }) (λ n k e. e) _ h;
  bodies = bodies_on s (record s { scopes = cs }) w (scopes_change s cs)
      (λ k x b e i. (x, e, i, Rattle.typing_laws.proofs.Agreeing.refines_self x.of));
  begins = begins_on s (record s { scopes = cs })
      (follows s (record s { scopes = cs }) (scopes_change s cs) (λ k z h. h))
      (initials_self s (record s { scopes = cs }) refl) w.begins;
}

files_inside : (s : State) (cs : List Scope) → AllFiles s (file_names cs) →
    AllFiles s (file_names (record { names = []; tags = [] } ∷ cs))
files_inside s [] h = tt
files_inside s (c ∷ cs) h = h

pub files_outer : (s : State) (cs : List Scope) → AllFiles s (file_names cs) → AllFiles s (file_names (outer_scopes cs))
files_outer s [] h = tt
files_outer s (c ∷ []) h = tt
files_outer s (c ∷ d ∷ cs) h = h

pub outer_names : (P : Entity → Type 0) (cs : List Scope) → AllScopes P cs → AllScopes P (outer_scopes cs)
outer_names P [] h = tt
outer_names P (c ∷ cs) h = h.1

pub items_elsewhere : (c : Context) (s q : State) (cs : List Scope) (i : Items) → ItemsOk c s q i →
    ItemsOk c s (record q { scopes = cs }) i
items_elsewhere c s q cs i h =
    let g = scopes_change q cs in
    record {
      fits = actions_kept q (record q { scopes = cs }) g c.gives (inside_context c) (actions i.actions) h.fits;
      vars = h.vars;
      more = h.more;
      once = h.once;
      complete = h.complete;
    }

scope_grows : (s q : State) → Grows false (inside_scope s) q → Grows false s (outside_scope q)
scope_grows s q g = record {
  refers = record {
    tags = g.refers.tags;
    statics = g.refers.statics;
    routines = g.refers.routines;
    texts = g.refers.texts;
    locals = g.refers.locals;
  };
  opened = g.opened;
  outer = ap outer_scopes g.outer;
  deep = ap length g.outer;
  names = tt;
  count = tt;
  still = tt;
  statics = g.statics;
  routines = g.routines;
}

-- a step in a scope of its own
record InScope {A : Type 0} (d : Doing A) (s : State) (x : A × State) : Type 0 where
  result : A
  state : State
  step : d (inside_scope s) ≡ Ok (result, state)
  is : (result, outside_scope state) ≡ x

scoped : {A : Type 0} (d : Doing A) (s : State) (x : A × State) → in_scope d s ≡ Ok x → InScope d s x
scoped d s x e =
    let y = first_then (d (inside_scope s)) (λ a r. Ok (a, outside_scope r)) x e in
    record { result = y.0.0; state = y.0.1; step = y.1; is = ok_is (y.0.0, outside_scope y.0.1) x y.2 }

inside_inv : (s : State) → Inv true s → Inv true (inside_scope s)
inside_inv s i = inv_elsewhere true s (record { names = []; tags = [] } ∷ s.scopes) (tt, i.names) i

inside_strict : (s : State) → Strict s → Strict (inside_scope s)
inside_strict s w = strict_elsewhere s (record { names = []; tags = [] } ∷ s.scopes) (files_inside s s.scopes w.files) w

outside_inv : (q : State) → Inv true q → Inv true (outside_scope q)
outside_inv q i = inv_elsewhere true q (outer_scopes q.scopes) (outer_names (EntityOk true q) q.scopes i.names) i

outside_strict : (q : State) → Strict q → Strict (outside_scope q)
outside_strict q w = strict_elsewhere q (outer_scopes q.scopes) (files_outer q q.scopes w.files) w

-- items in a scope of their own
items_scoped : (c : Context) (d : Doing Items) (s : State) →
    ((y : Items × State) → d (inside_scope s) ≡ Ok y → Itemed c (inside_scope s) y) → (x : Items × State) →
    in_scope d s ≡ Ok x → Itemed c s x
items_scoped c d s f x e =
    let z = scoped d s x e in
    let k = f (z.result, z.state) z.step in
    subst (Itemed c s) z.is (
      record {
        inv = outside_inv z.state k.0.inv;
        grown = scope_grows s z.state k.0.grown;
        post = items_elsewhere c s z.state (outer_scopes z.state.scopes) z.result
            (items_from c s (inside_scope s) z.state z.result refl k.0.post);
      },
      outside_strict z.state k.1,
    )

-- ---- parts that are statements

-- one statement, and no variables outside of it
pub record PartOk (c : Context) (s q : State) (xs : List Action) : Type 0 where
  pub items : ItemsOk c s q (record { vars = []; actions = xs })
  pub single : (a : Action) × (xs ≡ a ∷ [])

Parted : Context → State → List Action × State → Type 0
Parted c s y = Kept true false s (λ q xs. PartOk c s q xs) y × Strict y.1

one_part : (c : Context) (s q : State) (i : Items) → ItemsOk c s q i → IsOne i → PartOk c s q i.actions
one_part c s q i h o = record {
  items = record {
    fits = h.fits;
    vars = λ j k e. absurd cc;
    more = h.more;
    once = λ k. ap (λ vs. times_in k vs + times_in k (all_declared (actions i.actions))) (sym o.2) ∙ h.once k;
    complete = h.complete;
  };
  single = (o.0, o.1);
}

part_ok : (x : Syn) (c : Context) (r : Reading) (s : State) → ReadsItem x r → IsStatement x → ContextOk s c →
    Inv true s → Strict s → (y : List Action × State) → substatement c r s ≡ Ok y → Parted c s y
unfolding Parted
part_ok x c r s h st k i w y e =
    let z = first_then (in_scope (r.item c) s) (λ i. give i.actions) y e in
    let v = scoped (r.item c) s z.0 z.1 in
    let g = h.item c (inside_scope s) (record { type = k.type; bare = k.bare }) (inside_inv s i) (inside_strict s w)
    (v.result, v.state) v.step in
    let one = g.one st in
    let a : Itemed c s (v.result, outside_scope v.state) = (
      record {
        inv = outside_inv v.state g.kept.inv;
        grown = scope_grows s v.state g.kept.grown;
        post = items_elsewhere c s v.state (outer_scopes v.state.scopes) v.result
            (items_from c s (inside_scope s) v.state v.result refl g.kept.post);
      },
      outside_strict v.state g.strict,
    ) in
    let b = subst (λ (u : Items × State). Itemed c s u × IsOne u.0) v.is (a, one) in
    given (λ (u : List Action × State). Kept true false s (λ q xs. PartOk c s q xs) u × Strict u.1) z.0.0.actions z.0.1
    y z.2
    (record { inv = b.0.0.inv; grown = b.0.0.grown; post = one_part c s z.0.1 z.0.0 b.0.0.post b.1 }, b.0.1)

part_from : (c : Context) (s t q : State) (xs : List Action) → length s.locals ≡ length t.locals → PartOk c t q xs →
    PartOk c s q xs
part_from c s t q xs e h =
    record { items = items_from c s t q (record { vars = []; actions = xs }) e h.items; single = h.single }

count_one : (c : Context) (s q : State) (xs : List Action) → PartOk c s q xs → count_of (actions xs) ≡ 1
count_one c s q xs h = ap (λ ys. count_of (actions ys)) h.single.1

-- a condition
Tested : State → Term × State → Type 0
Tested s y = Kept true true s (λ q a. ValueOk true q a × holds (is_scalar (type_of a))) y

test_ok : (r : Reading) (s : State) → ReadsExpression r → Inv true s → (y : Term × State) → test r s ≡ Ok y → Tested s y
unfolding Tested
test_ok r s h i y e =
    let z = first_then (read_value r s) condition y e in
    let k = read_ok true s i r h z.0 z.1 in
    onward true true s z.0 y k (condition_ok true z.0.1 k.inv z.0.0 k.post y z.2)

-- a statement with a test in front and parts
tested_form : (c : Context) (s b q : State) (f : Form) (a : Term) (ys : List Action) (p : Pos) → Grows true s b →
    ValueOk true b a → holds (is_scalar (type_of a)) → Refers b q → form_vars f ≡ [] →
    ItemsOk (record {
      gives = c.gives;
      in_loop = (inside_of f (inside_context c)).loop;
      breakable = (inside_of f (inside_context c)).breakable;
    }) b q (record { vars = []; actions = ys }) →
    FormOk q c.gives (inside_context c) f (one_term a) (count_of (actions ys)) →
    ItemsOk c s q (one_action (action f (one_term a) (actions ys) p))
tested_form c s b q f a ys p g h w r v k o =
    let n = g.count in
    one_form c s q f (one_term a) (actions ys) p ((value_kept true b q r a h).fits, tt) o k.fits
    (omega (arith, k.more, n))
    (λ j. ap (λ vs. times_in j vs + times_in j (all_declared (actions ys))) v ∙ k.once j
    ∙ ap (λ m. between m (length q.locals) j) n)
    (λ j u le e. k.complete j u (omega (arith, le, n)) e)

-- ---- the statements

-- what a statement gives stays behind a step that declares nothing
abbrev pub Item : Context → State → Items × State → Type 0
Item c s y = Kept true false s (λ q i. ItemsOk c s q i × IsOne i) y × Strict y.1

one_is : (a : Action) → IsOne (one_action a)
one_is a = (a, refl, refl)

-- a loop or an `if`: a test, and then a part
test_then : (x : Syn) (c d : Context) (f : Form) (r q : Reading) (p : Pos) (s : State) → form_vars f ≡ [] →
    d.gives ≡ c.gives → (inside_of f (inside_context c) ≡ inside_context d) →
    ((a : Term) (ys : List Action) (t : State) → holds (is_scalar (type_of a)) → count_of (actions ys) ≡ 1 →
    FormOk t c.gives (inside_context c) f (one_term a) (count_of (actions ys))) →
    ReadsExpression r → ReadsItem x q → IsStatement x → ContextOk s d → Inv true s → Strict s → (y : Items × State) →
    (test r >>= λ a. substatement d q >>= λ ys. does f (one_term a) (actions ys) p) s ≡ Ok y → Item c s y
unfolding Tested Parted
test_then x c d f r q p s v ge ins fo h j st k i w y e =
    let z = first_then (test r s) (λ a. substatement d q >>= λ ys. does f (one_term a) (actions ys) p) y e in
    let t = test_ok r s h i z.0 z.1 in
    let b = z.0.1 in
    let u = first_then (substatement d q b) (λ ys. does f (one_term z.0.0) (actions ys) p) y z.2 in
    let n = part_ok x d q b j st (context_kept s b (grows_loose false s b t.grown) d k) t.inv
    (strict_still s b w t.grown) u.0 u.1 in
    let o = u.0.1 in
    let within = inside_of f (inside_context c) in
    let same : ItemsOk (record { gives = c.gives; in_loop = within.loop; breakable = within.breakable }) b o
    (record { vars = []; actions = u.0.0 }) =
    same_context c d b o f (record { vars = []; actions = u.0.0 }) ge ins n.0.post.items in
    given (λ (u : Items × State). Kept true false s (λ q i. ItemsOk c s q i × IsOne i) u × Strict u.1)
    (one_action (action f (one_term z.0.0) (actions u.0.0) p)) o y u.2 (
      record {
        inv = n.0.inv;
        grown = grows_on false s b o (grows_loose false s b t.grown) n.0.grown;
        post = (
          tested_form c s b o f z.0.0 u.0.0 p t.grown t.post.0 t.post.1 n.0.grown.refers v same
              (fo z.0.0 u.0.0 o t.post.1 (count_one d b o u.0.0 n.0.post)),
          one_is _,
        );
      },
      n.1,
    )
  where
    same_context : (c d : Context) (b o : State) (f : Form) (i : Items) → d.gives ≡ c.gives →
        (inside_of f (inside_context c) ≡ inside_context d) → ItemsOk d b o i →
        ItemsOk (record {
          gives = c.gives;
          in_loop = (inside_of f (inside_context c)).loop;
          breakable = (inside_of f (inside_context c)).breakable;
        }) b o i
    same_context c d b o f i ge ins h = record {
      fits = subst (λ (j : Inside). ActionsOk o c.gives j (actions i.actions)) (sym ins)
          (subst (λ t. ActionsOk o t (inside_context d) (actions i.actions)) ge h.fits);
      vars = h.vars;
      more = h.more;
      once = h.once;
      complete = h.complete;
    }

-- a statement in a scope of its own
item_scoped : (c : Context) (d : Doing Items) (s : State) →
    ((y : Items × State) → d (inside_scope s) ≡ Ok y → Item c (inside_scope s) y) → (x : Items × State) →
    in_scope d s ≡ Ok x → Item c s x
item_scoped c d s f x e =
    let z = scoped d s x e in
    let k = f (z.result, z.state) z.step in
    subst (Item c s) z.is (
      record {
        inv = outside_inv z.state k.0.inv;
        grown = scope_grows s z.state k.0.grown;
        post = (
          items_elsewhere c s z.state (outer_scopes z.state.scopes) z.result
              (items_from c s (inside_scope s) z.state z.result refl k.0.post.0),
          k.0.post.1,
        );
      },
      outside_strict z.state k.1,
    )

context_inside : (s : State) (c : Context) → ContextOk s c → ContextOk (inside_scope s) c
context_inside s c h = record { type = h.type; bare = h.bare }

-- an expression as a statement
evaluated : (c : Context) (r : Reading) (p : Pos) (s : State) → ReadsExpression r → Inv true s → Strict s →
    (y : Items × State) → (read_value r >>= λ a. does Evaluate (one_term a.is) no_actions p) s ≡ Ok y → Item c s y
evaluated c r p s h i w y e =
    let z = first_then (read_value r s) (λ a. does Evaluate (one_term a.is) no_actions p) y e in
    let k = read_ok true s i r h z.0 z.1 in
    let b = z.0.1 in
    given (Item c s) (one_action (action Evaluate (one_term z.0.0.is) no_actions p)) b y z.2 (
      record {
        inv = k.inv;
        grown = grows_loose false s b k.grown;
        post = (plain_form c s b Evaluate (one_term z.0.0.is) p k.grown.count refl (k.post.fits, tt) tt, one_is _);
      },
      strict_still s b w k.grown,
    )

plainly_done : (c : Context) (f : Form) (p : Pos) (s : State) → form_vars f ≡ [] →
    FormOk s c.gives (inside_context c) f no_terms 0 → Inv true s → Strict s → (y : Items × State) →
    does f no_terms no_actions p s ≡ Ok y → Item c s y
plainly_done c f p s v g i w y e =
    given (Item c s) (one_action (action f no_terms no_actions p)) s y e (
      record { inv = i; grown = grows_self false s; post = (plain_form c s s f no_terms p refl v tt g, one_is _) },
      w,
    )

returned : (c : Context) (t : Lexeme) (r : Reading) (s : State) → ReadsExpression r → ContextOk s c → Inv true s →
    Strict s → (y : Items × State) →
    (read_value r >>= λ a. need (not (is_void c.gives)) 133 t.pos >> assigned c.gives a
    >>= λ x. does Return (one_term x) no_actions t.pos) s ≡ Ok y → Item c s y
returned c t r s h k i w y e =
    let go : Term → Doing Items = λ x. does Return (one_term x) no_actions t.pos in
    let z = first_then (read_value r s) (λ a. need (not (is_void c.gives)) 133 t.pos >> assigned c.gives a >>= go) y e
    in
    let l = read_ok true s i r h z.0 z.1 in
    let b = z.0.1 in
    let n = needed_in (not (is_void c.gives)) 133 t.pos (assigned c.gives z.0.0) go b y z.2 in
    let u = first_then (assigned c.gives z.0.0 b) go y n.1 in
    let kb = context_kept s b (grows_loose false s b l.grown) c k in
    let a = assigned_ok true b l.inv c.gives z.0.0 kb.type l.post u.0 u.1 in
    let q = u.0.1 in
    let both_grown = grows_on true s b q l.grown a.grown in
    given (Item c s) (one_action (action Return (one_term u.0.0) no_actions t.pos)) q y u.2 (
      record {
        inv = a.inv;
        grown = grows_loose false s q both_grown;
        post = (
          plain_form c s q Return (one_term u.0.0) t.pos both_grown.count refl (a.post.value.fits, tt)
              (a.post.type ∙ k.bare),
          one_is _,
        );
      },
      strict_still s q w both_grown,
    )

-- ---- blocks

pub all_items_ok : (c : Context) (xs : Syns) (rs : List Reading) (s : State) → AllItems xs rs → ContextOk s c →
    Inv true s → Strict s → (y : Items × State) → all_items c rs s ≡ Ok y → Itemed c s y
all_items_ok c nil [] s h k i w y e =
    given (Itemed c s) no_items s y e (record { inv = i; grown = grows_self false s; post = items_none c s }, w)
all_items_ok c (more x xs) (r ∷ rs) s h k i w y e =
    let z = first_then (r.item c s) (λ a. all_items c rs >>= λ b. give (both a b)) y e in
    let l = h.0.item c s k i w z.0 z.1 in
    let a = z.0.1 in
    let u = first_then (all_items c rs a) (λ b. give (both z.0.0 b)) y z.2 in
    let n = all_items_ok c xs rs a h.1 (context_kept s a l.kept.grown c k) l.kept.inv l.strict u.0 u.1 in
    given (Itemed c s) (both z.0.0 u.0.0) u.0.1 y u.2 (
      record {
        inv = n.0.inv;
        grown = grows_on false s a u.0.1 l.kept.grown n.0.grown;
        post = items_both c s a u.0.1 z.0.0 u.0.0 n.0.grown.refers l.kept.post n.0.post;
      },
      n.1,
    )
all_items_ok c nil (r ∷ rs) s h k i w y e = absurd h
all_items_ok c (more x xs) [] s h k i w y e = absurd h

block_form : (c : Context) (s q : State) (i : Items) (p : Pos) → ItemsOk c s q i →
    ItemsOk c s q (one_action (block_action i p))
block_form c s q i p h = one_form c s q (Block i.vars) no_terms
    (actions i.actions) p tt h.vars h.fits h.more h.once h.complete

block_ok : (c : Context) (xs : Syns) (rs : List Reading) (p : Pos) (s : State) → AllItems xs rs → ContextOk s c →
    Inv true s → Strict s → (y : Items × State) →
    (in_scope (all_items c rs) >>= λ i. give (one_action (block_action i p))) s ≡ Ok y → Item c s y
block_ok c xs rs p s h k i w y e =
    let z = first_then (in_scope (all_items c rs) s) (λ i. give (one_action (block_action i p))) y e in
    let l = items_scoped c (all_items c rs) s
    (λ v g. all_items_ok c xs rs (inside_scope s) h (context_inside s c k) (inside_inv s i)
    (inside_strict s w) v g) z.0 z.1 in
    given (Item c s) (one_action (block_action z.0.0 p)) z.0.1 y z.2
    (record { inv = l.0.inv; grown = l.0.grown; post = (block_form c s z.0.1 z.0.0 p l.0.post, one_is _) }, l.1)

-- ---- two parts, loops and switches

-- items behind a step that declares nothing
items_later : (c : Context) (s b q : State) (i : Items) → Grows true b q → ItemsOk c s b i → ItemsOk c s q i
items_later c s b q i g h =
    let n = g.count in
    record {
      fits = actions_kept b q g.refers c.gives (inside_context c) (actions i.actions) h.fits;
      vars = are_locals_kept b q g.refers i.vars h.vars;
      more = omega (arith, h.more, n);
      once = λ k. h.once k ∙ ap (λ m. between (length s.locals) m k) (sym n);
      complete = λ k v le e. complete_on b q g.refers k v e
          (let l = slice_get_within q.locals k v e in omega (arith, l, n)) (λ w m. h.complete k w le m);
    }

two_actions : (xs ys : List Action) (a b : Action) → xs ≡ a ∷ [] → ys ≡ b ∷ [] → count_of (actions (xs ++ ys)) ≡ 2
two_actions xs ys a b e f = ap (λ zs. count_of (actions (zs ++ ys))) e ∙ ap (λ zs. count_of (actions (a ∷ zs))) f

if_else_ok : (x z : Syn) (c : Context) (t : Lexeme) (r q p : Reading) (s : State) → ReadsExpression r → ReadsItem x q →
    ReadsItem z p → IsStatement x → IsStatement z → ContextOk s c → Inv true s → Strict s →
    (y : Items × State) → (test r >>= λ a. substatement c q >>= λ xs. substatement c p
    >>= λ ys. does If (one_term a) (actions (xs ++ ys)) t.pos) s ≡ Ok y → Item c s y
unfolding Tested Parted
if_else_ok x z c t r q p s h j l st su k i w y e =
    let m = first_then (test r s) (λ a. substatement c q >>= λ xs. substatement c p
    >>= λ ys. does If (one_term a) (actions (xs ++ ys)) t.pos) y e in
    let u = test_ok r s h i m.0 m.1 in
    let b = m.0.1 in
    let kb = context_kept s b (grows_loose false s b u.grown) c k in
    let n = first_then (substatement c q b) (λ xs. substatement c p
    >>= λ ys. does If (one_term m.0.0) (actions (xs ++ ys)) t.pos) y m.2 in
    let v = part_ok x c q b j st kb u.inv (strict_still s b w u.grown) n.0 n.1 in
    let d = n.0.1 in
    let o = first_then (substatement c p d) (λ ys. does If (one_term m.0.0) (actions (n.0.0 ++ ys)) t.pos) y n.2 in
    let f = part_ok z c p d l su (context_kept b d v.0.grown c kb) v.0.inv v.1 o.0 o.1 in
    let g = o.0.1 in
    let xs = n.0.0 in let ys = o.0.0 in
    let two = items_both c b d g (record { vars = []; actions = xs })
    (record { vars = []; actions = ys }) f.0.grown.refers v.0.post.items f.0.post.items in
    let all = grows_on false b d g v.0.grown f.0.grown in
    given (Item c s) (one_action (action If (one_term m.0.0) (actions (xs ++ ys)) t.pos)) g y o.2 (
      record {
        inv = f.0.inv;
        grown = grows_on false s b g (grows_loose false s b u.grown) all;
        post = (
          tested_form c s b g If m.0.0 (xs ++ ys) t.pos u.grown u.post.0 u.post.1 all.refers refl two (
            u.post.1,
            inr (two_actions xs ys v.0.post.single.0 f.0.post.single.0 v.0.post.single.1
                f.0.post.single.1),
          ),
          one_is _,
        );
      },
      f.1,
    )

do_ok : (x : Syn) (c : Context) (t : Lexeme) (r q : Reading) (s : State) → ReadsItem x r → ReadsExpression q →
    IsStatement x → ContextOk s c → Inv true s → Strict s →
    (y : Items × State) → (substatement (in_a_loop c) r >>= λ xs. test q
    >>= λ a. does Do (one_term a) (actions xs) t.pos) s ≡ Ok y → Item c s y
unfolding Tested Parted
do_ok x c t r q s j h st k i w y e =
    let n = first_then (substatement (in_a_loop c) r s)
    (λ xs. test q >>= λ a. does Do (one_term a) (actions xs) t.pos) y e in
    let v = part_ok x (in_a_loop c) r s j st (record { type = k.type; bare = k.bare }) i w n.0 n.1 in
    let b = n.0.1 in
    let m = first_then (test q b) (λ a. does Do (one_term a) (actions n.0.0) t.pos) y n.2 in
    let u = test_ok q b h v.0.inv m.0 m.1 in
    let d = m.0.1 in
    let xs = n.0.0 in
    let k' = items_later (in_a_loop c) s b d (record { vars = []; actions = xs }) u.grown v.0.post.items in
    let one = count_one (in_a_loop c) s b xs v.0.post in
    given (Item c s) (one_action (action Do (one_term m.0.0) (actions xs) t.pos)) d y m.2 (
      record {
        inv = u.inv;
        grown = grows_on false s b d v.0.grown (grows_loose false b d u.grown);
        post = (
          one_form c s d Do (one_term m.0.0) (actions xs) t.pos (u.post.0.fits, tt)
              (u.post.1, one) k'.fits k'.more k'.once k'.complete,
          one_is _,
        );
      },
      strict_still b d v.1 u.grown,
    )

-- a test or a step of a `for`, if there is one
abbrev OptionalTerm : State → List Term → Type 0
OptionalTerm q ts = (ts ≡ []) ⊎ ((a : Term) × (ts ≡ a ∷ []) × ValueOk true q a)

abbrev OptionalTest : State → List Term → Type 0
OptionalTest q ts = (ts ≡ []) ⊎ ((a : Term) × (ts ≡ a ∷ []) × ValueOk true q a × holds (is_scalar (type_of a)))

optional_test_ok : (x : Syn) (r : Reading) (s : State) → ReadsExpression r → Inv true s → (y : List Term × State) →
    optional_test x r s ≡ Ok y → Kept true true s OptionalTest y
unfolding Tested
optional_test_ok x r s h i y e =
    either (is_absent x) (give []) (test r >>= λ a. give (a ∷ [])) s y (Kept true true s OptionalTest y)
    (λ _ g. given (Kept true true s OptionalTest) [] s y g
    (record { inv = i; grown = grows_self true s; post = inl refl }))
    (λ _ g.
    let z = first_then (test r s) (λ a. give (a ∷ [])) y g in
    let k = test_ok r s h i z.0 z.1 in
    onward true true s z.0 y k (given (Kept true true z.0.1 OptionalTest) (z.0.0 ∷ []) z.0.1 y z.2
    (record { inv = k.inv; grown = grows_self true z.0.1; post = inr (z.0.0, refl, k.post.0, k.post.1) }))) e

optional_step_ok : (x : Syn) (r : Reading) (s : State) → ReadsExpression r → Inv true s → (y : List Term × State) →
    optional_step x r s ≡ Ok y → Kept true true s OptionalTerm y
optional_step_ok x r s h i y e =
    either (is_absent x) (give []) (read_value r >>= λ a. give (a.is ∷ [])) s y (Kept true true s OptionalTerm y)
    (λ _ g. given (Kept true true s OptionalTerm) [] s y g
    (record { inv = i; grown = grows_self true s; post = inl refl }))
    (λ _ g.
    let z = first_then (read_value r s) (λ a. give (a.is ∷ [])) y g in
    let k = read_ok true s i r h z.0 z.1 in
    onward true true s z.0 y k (given (Kept true true z.0.1 OptionalTerm) (z.0.0.is ∷ []) z.0.1 y z.2
    (record { inv = k.inv; grown = grows_self true z.0.1; post = inr (z.0.0.is, refl, k.post) }))) e

-- the test and the step together
ForTerms : State → List Term → List Term → Type 0
ForTerms q ts ss = TermsOk true q (list_terms (ts ++ ss)) × TestsFit (has_one ts) (has_one ss) (list_terms (ts ++ ss))

for_terms : (q : State) (ts ss : List Term) → OptionalTest q ts → OptionalTerm q ss → ForTerms q ts ss
unfolding ForTerms
for_terms q ts ss (inl e) (inl f) =
    subst (λ ts. ForTerms q ts ss) (sym e) (subst (λ ss. ForTerms q [] ss) (sym f) (tt, tt))
for_terms q ts ss (inl e) (inr b) =
    subst (λ ts. ForTerms q ts ss) (sym e) (subst (λ ss. ForTerms q [] ss) (sym b.1) ((b.2.fits, tt), tt))
for_terms q ts ss (inr a) (inl f) =
    subst (λ ts. ForTerms q ts ss) (sym a.1) (subst (λ ss. ForTerms q (a.0 ∷ []) ss) (sym f) ((a.2.fits, tt), a.3))
for_terms q ts ss (inr a) (inr b) =
    subst (λ ts. ForTerms q ts ss) (sym a.1) (subst (λ ss. ForTerms q (a.0 ∷ []) ss) (sym b.1)
    ((a.2.fits, (b.2.fits, tt)), a.3))

optional_kept : (q r : State) (ts : List Term) → Refers q r → OptionalTest q ts → OptionalTest r ts
optional_kept q r ts g (inl e) = inl e
optional_kept q r ts g (inr a) = inr (a.0, a.1, value_kept true q r g a.0 a.2, a.3)

term_kept_in : (q r : State) (ts : List Term) → Refers q r → OptionalTerm q ts → OptionalTerm r ts
term_kept_in q r ts g (inl e) = inl e
term_kept_in q r ts g (inr a) = inr (a.0, a.1, value_kept true q r g a.0 a.2)

first_part_ok : (x : Syn) (c : Context) (r : Reading) (s : State) → ReadsItem x r → ContextOk s c → Inv true s →
    Strict s → (y : Items × State) → first_part c x r s ≡ Ok y → Itemed (in_a_loop c) s y
first_part_ok x c r s h k i w y e =
    either (is_declaration x) (r.item c) (if is_absent x then give no_items
    else read_value r >>= λ a. does Evaluate (one_term a.is) no_actions (first_token x).pos) s y
    (Itemed (in_a_loop c) s y)
    (λ d g. let a = h.item c s k i w y g in (a.any d (in_a_loop c), a.strict))
    (λ _ g. either (is_absent x) (give no_items)
    (read_value r >>= λ a. does Evaluate (one_term a.is) no_actions (first_token x).pos) s y
    (Itemed (in_a_loop c) s y)
    (λ _ v. given (Itemed (in_a_loop c) s) no_items s y v
    (record { inv = i; grown = grows_self false s; post = items_none (in_a_loop c) s }, w))
    (λ _ v. let a = evaluated (in_a_loop c) r (first_token x).pos s h.expression i w y v in
    (record { inv = a.0.inv; grown = a.0.grown; post = a.0.post.0 }, a.1)) g) e

count_more : (xs : List Action) (a : Action) → count_of (actions (xs ++ a ∷ [])) ≡ length xs + 1
count_more [] a = refl
count_more (x ∷ xs) a = ap (λ n. n + 1) (count_more xs a) ∙ omega arith

for_ok : (c : Context) (t : Lexeme) (x v z u : Syn) (r q p b : Reading) (s : State) → ReadsItem x r →
    ReadsExpression q → ReadsExpression p → ReadsItem u b → IsStatement u → ContextOk s c → Inv true s → Strict s →
    (y : Items × State) → for_of c t x v z r q p b s ≡ Ok y → Item c s y
unfolding Parted ForTerms
for_ok c t x v z u r q p b s h hq hp hb st k i w y e =
    let m = first_then (first_part c x r s) (λ i. optional_test v q >>= λ ts. optional_step z p
    >>= λ ss. substatement (in_a_loop c) b >>= λ body. give (one_action (for_action i ts ss body t.pos))) y e in
    let f = first_part_ok x c r s h k i w m.0 m.1 in
    let A = m.0.1 in
    let n = first_then (optional_test v q A) (λ ts. optional_step z p >>= λ ss. substatement (in_a_loop c) b
    >>= λ body. give (one_action (for_action m.0.0 ts ss body t.pos))) y m.2 in
    let g = optional_test_ok v q A hq f.0.inv n.0 n.1 in
    let B = n.0.1 in
    let o = first_then (optional_step z p B) (λ ss. substatement (in_a_loop c) b
    >>= λ body. give (one_action (for_action m.0.0 n.0.0 ss body t.pos))) y n.2 in
    let l = optional_step_ok z p B hp g.inv o.0 o.1 in
    let C = o.0.1 in
    let AC = grows_on true A B C g.grown l.grown in
    let strictC = strict_still A C f.1 AC in
    let kC = context_kept A C (grows_loose false A C AC) c (context_kept s A f.0.grown c k) in
    let d = first_then (substatement (in_a_loop c) b C)
    (λ body. give (one_action (for_action m.0.0 n.0.0 o.0.0 body t.pos))) y o.2 in
    let j = part_ok u (in_a_loop c) b C hb st (record { type = kC.type; bare = kC.bare }) l.inv strictC d.0 d.1 in
    let D = d.0.1 in
    let ts = n.0.0 in let ss = o.0.0 in let body = d.0.0 in let it = m.0.0 in
    let first = items_later (in_a_loop c) s A C it AC f.0.post in
    let all = items_both (in_a_loop c) s C D it
    (record { vars = []; actions = body }) j.0.grown.refers first j.0.post.items in
    let BD = refers_on B C D l.grown.refers j.0.grown.refers in
    let terms = for_terms D ts ss (optional_kept B D ts BD g.post) (term_kept_in C D ss j.0.grown.refers l.post) in
    let count : count_of (actions (it.actions ++ body)) ≡ length it.actions + 1 =
    ap (λ zs. count_of (actions (it.actions ++ zs))) j.0.post.single.1
    ∙ count_more it.actions j.0.post.single.0 in
    let vars : AreLocals D it.vars = are_locals_kept C D j.0.grown.refers it.vars first.vars in
    given (Item c s) (one_action (for_action it ts ss body t.pos)) D y d.2 (
      record {
        inv = j.0.inv;
        grown = grows_on false s A D f.0.grown (grows_on false A C D (grows_loose false A C AC) j.0.grown);
        post = (
          one_form c s D (For it.vars (length it.actions) (has_one ts) (has_one ss)) (list_terms (ts ++ ss))
              (actions (it.actions ++ body)) t.pos terms.0 (vars, terms.1, count) all.fits all.more
              (λ k. for_once k it body D s (all.once k)) all.complete,
          one_is _,
        );
      },
      j.1,
    )
  where
    for_once : (k : ℕ) (it : Items) (body : List Action) (D s : State) →
        times_declared k (it.vars ++ []) (it.actions ++ body) ≡ between (length s.locals) (length D.locals) k →
        times_in k it.vars + times_in k (all_declared (actions (it.actions ++ body)))
        ≡ between (length s.locals) (length D.locals) k
    for_once k it body D s e =
        subst (λ vs. times_in k vs + times_in k (all_declared (actions (it.actions ++ body)))
        ≡ between (length s.locals) (length D.locals) k) (append-nil it.vars) e

-- labels and items of a switch
pub record CasesOk (c : Context) (s q : State) (cs : Cases) : Type 0 where
  pub items : ItemsOk c s q cs.items
  pub labels : LabelsFit cs.labels (length cs.items.actions)

labels_more : (ls : List Label) (n : ℕ) (l : Label) → l.before ≤ n → LabelsFit ls n → LabelsFit (ls ++ l ∷ []) n
labels_more [] n l h k zero m e = subst (λ (x : Label). x.before ≤ n) (same_Some l m e) h
labels_more [] n l h k (suc j) m e = absurd cc
labels_more (x ∷ ls) n l h k zero m e = k 0 m e
labels_more (x ∷ ls) n l h k (suc j) m e = labels_more ls n l h (λ i o q. k (suc i) o q) j m e

abbrev Cased : Context → State → State → Cases × State → Type 0
Cased c s₀ s y = Kept true false s (λ q cs. CasesOk c s₀ q cs) y × Strict y.1

switch_item_ok : (x : Syn) (c : Context) (of : Ty) (r : Reading) (cs : Cases) (s₀ s : State) → ReadsItem x r →
    CasesOk c s₀ s cs → ContextOk s c → Inv true s → Strict s → (y : Cases × State) → switch_item c of x r cs s ≡ Ok y →
    Cased c s₀ s y
switch_item_ok x c of r cs s₀ s h k o i w y e =
    either (labels x) (r.label of >>= λ v. add_label v (place x) cs)
    (r.item c >>= λ i. give (record cs { items = both cs.items i })) s y (Cased c s₀ s y)
    (λ _ g.
    let z = first_then (r.label of s) (λ v. add_label v (place x) cs) y g in
    let l = h.label of s i z.0 z.1 in
    let a = z.0.1 in
    let cs' : Cases = record cs {
      labels = cs.labels ++ record { value = z.0.0; before = length cs.items.actions }
          ∷ [];
    } in
    let n = needed (not (has_label z.0.0 cs.labels)) 131 (place x) (give cs') a y z.2 in
    given (Cased c s₀ s) cs' a y n.1 (
      record {
        inv = l.inv;
        grown = grows_loose false s a l.grown;
        post = record {
          items = items_later c s₀ s a cs.items l.grown k.items;
          labels = labels_more cs.labels (length cs.items.actions) _ (omega arith) k.labels;
        };
      },
      strict_still s a w l.grown,
    ))
    (λ _ g.
    let z = first_then (r.item c s) (λ i. give (record cs { items = both cs.items i })) y g in
    let l = h.item c s o i w z.0 z.1 in
    let a = z.0.1 in
    given (Cased c s₀ s) (record cs { items = both cs.items z.0.0 }) a y z.2 (
      record {
        inv = l.kept.inv;
        grown = l.kept.grown;
        post = record {
          items = items_both c s₀ s a cs.items z.0.0 l.kept.grown.refers k.items l.kept.post;
          labels = λ j m q. let b = k.labels j m q in
              omega (arith, b, length-append cs.items.actions z.0.0.actions);
        };
      },
      l.strict,
    )) e

switch_items_ok : (xs : Syns) (rs : List Reading) (c : Context) (of : Ty) (cs : Cases) (s₀ s : State) → AllItems xs rs →
    CasesOk c s₀ s cs → ContextOk s c → Inv true s → Strict s → (y : Cases × State) →
    switch_items c of xs rs cs s ≡ Ok y → Cased c s₀ s y
switch_items_ok nil [] c of cs s₀ s h k o i w y e =
    given (Cased c s₀ s) cs s y e (record { inv = i; grown = grows_self false s; post = k }, w)
switch_items_ok (more x xs) (r ∷ rs) c of cs s₀ s h k o i w y e =
    let z = first_then (switch_item c of x r cs s) (λ next. switch_items c of xs rs next) y e in
    let l = switch_item_ok x c of r cs s₀ s h.0 k o i w z.0 z.1 in
    let a = z.0.1 in
    let n = switch_items_ok xs rs c of z.0.0 s₀ a h.1 l.0.post (context_kept s a l.0.grown c o) l.0.inv l.1 y z.2 in
    (record { inv = n.0.inv; grown = grows_on false s a y.1 l.0.grown n.0.grown; post = n.0.post }, n.1)
switch_items_ok nil (r ∷ rs) c of cs s₀ s h k o i w y e = absurd h
switch_items_ok (more x xs) [] c of cs s₀ s h k o i w y e = absurd h

count_length : (xs : List Action) → count_of (actions xs) ≡ length xs
count_length [] = refl
count_length (x ∷ xs) = ap (λ n. n + 1) (count_length xs) ∙ omega arith

switch_ok : (c : Context) (t : Lexeme) (xs : Syns) (r : Reading) (rs : List Reading) (s : State) → ReadsExpression r →
    AllItems xs rs → ContextOk s c → Inv true s → Strict s → (y : Items × State) → switch_of c t xs r rs s ≡ Ok y →
    Item c s y
switch_ok c t xs r rs s h j k i w y e =
    let d = in_a_switch c in
    let last : Operand → Cases → Doing Items =
    λ a cases. does (Switch cases.items.vars cases.labels)
    (one_term (converted_term (promoted (operand_type a)) a.is)) (actions cases.items.actions) t.pos in
    let z = first_then (read_value r s) (λ a. need (is_integer (operand_type a)) 133 a.first
    >> (in_scope (switch_items d (promoted (operand_type a)) xs rs no_cases) >>= last a)) y e in
    let l = read_ok true s i r h z.0 z.1 in
    let b = z.0.1 in let a = z.0.0 in
    let of = promoted (operand_type a) in
    let n = needed (is_integer (operand_type a)) 133 a.first
    (in_scope (switch_items d of xs rs no_cases) >>= last a) b y z.2 in
    let u = first_then (in_scope (switch_items d of xs rs no_cases) b) (last a) y n.1 in
    let v = scoped (switch_items d of xs rs no_cases) b u.0 u.1 in
    let strict = strict_still s b w l.grown in
    let kb = context_kept s b (grows_loose false s b l.grown) c k in
    let g = switch_items_ok xs rs d of no_cases (inside_scope b) (inside_scope b) j
    (record { items = items_none d (inside_scope b); labels = λ j m q. absurd cc })
    (record { type = kb.type; bare = kb.bare }) (inside_inv b l.inv) (inside_strict b strict)
    (v.result, v.state) v.step in
    let q = outside_scope v.state in
    let grown = scope_grows b v.state g.0.grown in
    let items = items_elsewhere d b v.state (outer_scopes v.state.scopes) v.result.items
    (items_from d b (inside_scope b) v.state v.result.items refl g.0.post.items) in
    let a' = value_kept true b q grown.refers a.is l.post in
    let con = to_integer true q of a.is a' (promoted_integer (operand_type a) n.0) n.0 in
    let m = l.grown.count in
    let count = count_length v.result.items.actions in
    let now = subst (λ (z : Cases × State). last a z.0 z.1 ≡ Ok y) (sym v.is) u.2 in
    given (Item c s) _ q y now (
      record {
        inv = outside_inv v.state g.0.inv;
        grown = grows_on false s b q (grows_loose false s b l.grown) grown;
        post = (
          one_form c s q (Switch v.result.items.vars v.result.labels) (one_term (converted_term of a.is))
              (actions v.result.items.actions) t.pos (con.0.fits, tt) (
                items.vars,
                ap is_integer con.1 ∙ promoted_integer (operand_type a) n.0,
                ap promoted con.1
                    ∙ promoted_self (operand_type a) ∙ sym con.1,
                λ j o p. let b = g.0.post.labels j o p in
                    omega (arith, b, count),
              )
              items.fits (omega (arith, items.more, m)) (λ k. items.once k ∙ ap (λ n. between n (length q.locals) k) m)
              (λ k u le e. items.complete k u (omega (arith, le, m)) e),
          one_is _,
        );
      },
      outside_strict v.state g.1,
    )

-- ---- all of them

item_stated : (c : Context) (s : State) (y : Items × State) → Item c s y → Stated false c s y
item_stated c s y h = record {
  kept = record { inv = h.0.inv; grown = h.0.grown; post = h.0.post.0 };
  strict = h.1;
  one = λ _. h.0.post.1;
  any = λ e. absurd (false≢true e);
}

done_stated : (c : Context) (s : State) (y : Items × State) → Done s y → Stated true c s y
done_stated c s y h = record {
  kept = h.kept c;
  strict = h.strict;
  one = λ e. absurd (true≢false e);
  any = λ _ d. h.kept d;
}

pub statement_ok : (k : NodeKind) (t : Lexeme) (xs : Syns) (rs : List Reading) (c : Context) (s : State) →
    KindFits k t xs → AllItems xs rs → AllDeclared rs → AllDeclareAs rs → ContextOk s c → Inv true s → Strict s →
    (y : Items × State) → statement_of k t xs rs c s ≡ Ok y → Stated (is_declaration (node k t xs)) c s y
statement_ok Kinds.Declaration t xs rs c s f h a d k i w y e = done_stated c s y (declaration_ok t.pos rs s a d i w y e)
statement_ok Kinds.Block t xs rs c s f h a d k i w y e = item_stated c s y (block_ok c xs rs t.pos s h k i w y e)
statement_ok Kinds.EmptyStatement t xs rs c s f h a d k i w y e =
    item_stated c s y (plainly_done c Empty t.pos s refl tt i w y e)
statement_ok Kinds.ExpressionStatement t (more x nil) (r ∷ []) c s f h a d k i w y e =
    item_stated c s y (evaluated c r t.pos s h.0.expression i w y e)
statement_ok Kinds.If t (more x (more z nil)) (r ∷ q ∷ []) c s f h a d k i w y e =
    item_stated c s y (item_scoped c (test r >>= λ a. substatement c q >>= λ x. does If (one_term a) (actions x) t.pos)
    s
    (λ v g. test_then z c c If r q t.pos (inside_scope s) refl refl refl
    (λ a ys t u n. (u, inl n)) h.0.expression h.1.0 f (context_inside s c k) (inside_inv s i)
    (inside_strict s w) v g) y e)
statement_ok Kinds.IfElse t (more x (more z (more u nil))) (r ∷ q ∷ p ∷ []) c s f h a d k i w y e =
    item_stated c s y (item_scoped c (test r >>= λ a. substatement c q >>= λ x. substatement c p
    >>= λ y. does If (one_term a) (actions (x ++ y)) t.pos) s
    (λ v g. if_else_ok z u c t r q p (inside_scope s) h.0.expression h.1.0 h.1.1.0 f.0 f.1 (context_inside s c k)
    (inside_inv s i) (inside_strict s w) v g) y e)
statement_ok Kinds.While t (more x (more z nil)) (r ∷ q ∷ []) c s f h a d k i w y e =
    item_stated c s y (item_scoped c (test r >>= λ a. substatement (in_a_loop c) q
    >>= λ x. does While (one_term a) (actions x) t.pos) s
    (λ v g. test_then z c (in_a_loop c) While r q t.pos (inside_scope s) refl refl refl
    (λ a ys t u n. (u, n)) h.0.expression h.1.0 f (record { type = k.type; bare = k.bare }) (inside_inv s i)
    (inside_strict s w) v g) y e)
statement_ok Kinds.Do t (more x (more z nil)) (r ∷ q ∷ []) c s f h a d k i w y e =
    item_stated c s y (item_scoped c (substatement (in_a_loop c) r >>= λ x. test q
    >>= λ a. does Do (one_term a) (actions x) t.pos) s
    (λ v g. do_ok x c t r q (inside_scope s) h.0 h.1.0.expression f (context_inside s c k) (inside_inv s i)
    (inside_strict s w) v g) y e)
statement_ok Kinds.For t (more x (more v (more z (more u nil)))) (r ∷ q ∷ p ∷ b ∷ []) c s f h a d k i w y e =
    item_stated c s y (item_scoped c (for_of c t x v z r q p b) s
    (λ o g. for_ok c t x v z u r q p b (inside_scope s) h.0 h.1.0.expression h.1.1.0.expression h.1.1.1.0 f
    (context_inside s c k) (inside_inv s i) (inside_strict s w) o g) y e)
statement_ok Kinds.Switch t (more x xs) (r ∷ rs) c s f h a d k i w y e =
    item_stated c s y (item_scoped c (switch_of c t xs r rs) s
    (λ v g. switch_ok c t xs r rs (inside_scope s) h.0.expression h.1 (context_inside s c k) (inside_inv s i)
    (inside_strict s w) v g) y e)
statement_ok Kinds.Break t xs rs c s f h a d k i w y e =
    let n = needed c.breakable 133 t.pos (does Break no_terms no_actions t.pos) s y e in
    item_stated c s y (plainly_done c Break t.pos s refl n.0 i w y n.1)
statement_ok Kinds.Continue t xs rs c s f h a d k i w y e =
    let n = needed c.in_loop 133 t.pos (does Continue no_terms no_actions t.pos) s y e in
    item_stated c s y (plainly_done c Continue t.pos s refl n.0 i w y n.1)
statement_ok Kinds.Return t xs [] c s f h a d k i w y e =
    let n = needed (is_void c.gives) 133 t.pos (does Return no_terms no_actions t.pos) s y e in
    item_stated c s y (plainly_done c Return t.pos s refl n.0 i w y n.1)
statement_ok Kinds.Return t (more x xs) (r ∷ rs) c s f h a d k i w y e =
    item_stated c s y (returned c t r s h.0.expression k i w y e)
statement_ok Kinds.Return t nil (r ∷ rs) c s f h a d k i w y e = absurd h
statement_ok Kinds.ExpressionStatement t nil (r ∷ []) c s f h a d k i w y e = absurd h
statement_ok Kinds.ExpressionStatement t (more x (more z zs)) (r ∷ []) c s f h a d k i w y e = absurd h.1
statement_ok Kinds.If t nil (r ∷ q ∷ []) c s f h a d k i w y e = absurd h
statement_ok Kinds.If t (more x nil) (r ∷ q ∷ []) c s f h a d k i w y e = absurd h.1
statement_ok Kinds.If t (more x (more z (more u us))) (r ∷ q ∷ []) c s f h a d k i w y e = absurd h.1.1
statement_ok Kinds.IfElse t nil (r ∷ q ∷ p ∷ []) c s f h a d k i w y e = absurd h
statement_ok Kinds.IfElse t (more x nil) (r ∷ q ∷ p ∷ []) c s f h a d k i w y e = absurd h.1
statement_ok Kinds.IfElse t (more x (more z nil)) (r ∷ q ∷ p ∷ []) c s f h a d k i w y e = absurd h.1.1
statement_ok Kinds.IfElse t (more x (more z (more u (more v vs)))) (r ∷ q ∷ p ∷ []) c s f h a d k i w y e =
    absurd h.1.1.1
statement_ok Kinds.While t nil (r ∷ q ∷ []) c s f h a d k i w y e = absurd h
statement_ok Kinds.While t (more x nil) (r ∷ q ∷ []) c s f h a d k i w y e = absurd h.1
statement_ok Kinds.While t (more x (more z (more u us))) (r ∷ q ∷ []) c s f h a d k i w y e = absurd h.1.1
statement_ok Kinds.Do t nil (r ∷ q ∷ []) c s f h a d k i w y e = absurd h
statement_ok Kinds.Do t (more x nil) (r ∷ q ∷ []) c s f h a d k i w y e = absurd h.1
statement_ok Kinds.Do t (more x (more z (more u us))) (r ∷ q ∷ []) c s f h a d k i w y e = absurd h.1.1
statement_ok Kinds.For t (more x (more v (more z nil))) (r ∷ q ∷ p ∷ b ∷ []) c s f h a d k i w y e = absurd h.1.1.1
statement_ok Kinds.For t (more x (more v (more z (more u (more o os))))) (r ∷ q ∷ p ∷ b ∷ []) c s f h a d k i w y e =
    absurd h.1.1.1.1
statement_ok k t xs rs c s f h a d o i w y e = refused _ y e

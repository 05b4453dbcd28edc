-- Function definitions and the declarations of a file (C11 6.9).
use Rattle.std.proofs.Common.{◌≡◌, ℕ, zero, suc, ◌<◌, Bool, true, false, List, [], ◌∷◌, length, Option, Some, None, Ok}
use Rattle.std.proofs.Common.{refl, sym, ap, subst, ◌∙◌, ⊎_elim, arith}
use Rattle.std.specs.Prelude.{slice_get, map, option_map, not, ◌||◌, ◌==◌, if◌then◌else◌}
use Rattle.std.proofs.lemmas.Bool.{false≢true, or_parts, eqb-true, eq-eqb}
use Rattle.std.proofs.lemmas.Option.{none-some, same_Some, slice_get-map}
use Rattle.ck_base.specs.declared.positions.Pos.{Pos}
use Rattle.ck_base.specs.Tokens.{Lexeme}
use Rattle.c_tree.specs.declared.syntax.NodeKind.{NodeKind}
use Rattle.c_tree.specs.declared.syntax.NodeKind.TheVariants as Kinds
use Rattle.c_tree.specs.Syntax.{Syn, Syns, nil, more, first_token}
use Rattle.c_tree.specs.Layout.{Extent, with_extent, times}
use Rattle.c_tree.specs.Types.{Ty, Void, Int, Cap, Pointer, Array, Tagged, Const, Function, Tys, no_types, also, bare}
use Rattle.c_tree.specs.Types.{adjusted, in_signature, is_function, is_tagged, count, given_by}
use Rattle.c_tree.specs.Terms.{actions, numbers_from}
use Rattle.c_tree.specs.Scopes.{Entity, Local, Static, Routine, Alias, Enumerator, Named, Scope, TagState, StaticState}
use Rattle.c_tree.specs.Scopes.{LocalState, RoutineState, Body, State, Doing, give, need, look, change, ◌>>=◌, ◌>>◌}
use Rattle.c_tree.specs.Scopes.{find_in, innermost, outer_scopes, leave, changed_at, change_routine, at_file_scope}
use Rattle.c_tree.specs.Scopes.{type_extent, has_extent}
use Rattle.c_tree.specs.Scopes as scopes
use Rattle.c_tree.specs.Readings.{Specified, Param, Prototype, Wrap, Point, Row, Gives, Derived, Context, Items}
use Rattle.c_tree.specs.Readings.{Reading}
use Rattle.c_tree.specs.Declarators.{Formed, formed, form_on, wrap_on, plainly, judge, signature}
use Rattle.c_tree.specs.Declarations.{is_open, declaration, function_agrees, object_agrees, definition_agrees}
use Rattle.c_tree.specs.Declarations.{linked_routine, file_names}
use Rattle.c_tree.specs.Statements.{block_action}
use Rattle.c_tree.specs.Expressions.{routine_type, may_be_given}
use Rattle.c_tree.specs.Programs.{gives_complete, first_incomplete, refused_at, own_prototype, is_typedef, is_there}
use Rattle.c_tree.specs.Programs.{parameter_local, params_of, body_context, define_body, define_named}
use Rattle.c_tree.specs.Programs.{function_definition, external_of}
use Rattle.c_tree.specs.WellTyped.{holds, all_declared, outside}
use Rattle.typing_laws.proofs.Agreeing.{refines, refines_self}
use Rattle.typing_laws.proofs.Facts.{When, Complete, TypeOk, IsValue, LocalOk, EntityOk, AllNames, AllScopes}
use Rattle.typing_laws.proofs.Facts.{RoutineGrows}
use Rattle.typing_laws.proofs.Facts.{LocalGrows, Refers, Inv, Grows, Kept}
use Rattle.typing_laws.proofs.Growing.{extent_kept, refined_extent, complete_kept, type_kept, value_type_kept}
use Rattle.typing_laws.proofs.Growing.{tags_self}
use Rattle.typing_laws.proofs.Growing.{refers_self, refers_on, grows_self, grows_on, grows_loose, scopes_more}
use Rattle.typing_laws.proofs.Steps.{ok_is, given, refused, first_then, changed_from, changed_to, length-changed}
use Rattle.typing_laws.proofs.Scalars.{bare_ok, bare_bare, extent_there}
use Rattle.typing_laws.proofs.Calls.{given_value, given_complete}
use Rattle.typing_laws.proofs.Pointers.{tagged_agrees}
use Rattle.typing_laws.proofs.Places.{entity_kept}
use Rattle.typing_laws.proofs.Evaluated.{weaker, regain}
use Rattle.typing_laws.proofs.Tags.{ParamOk, AllParams, ParamName, PrototypeOk, AllWraps, AllDeclared}
use Rattle.typing_laws.proofs.Formed.{formed_ok, signature_count, prototype_kept}
use Rattle.typing_laws.proofs.Acts.{action_kept, actions_kept, between, times_in-append, are_locals_kept}
use Rattle.typing_laws.proofs.Placed.{follows, begins_on, initials_self}
use Rattle.typing_laws.proofs.Wholes.{function_refined, bare_refines, params_refined, count_refined, ParamsFit}
use Rattle.typing_laws.proofs.Wholes.{with_locals}
use Rattle.typing_laws.proofs.Wholes.{BodyOk, body_kept, AllFiles, Strict, files_more, bodies_on, strict_still}
use Rattle.typing_laws.proofs.Declared.{routines_moved, linked_routine_ok, checked, AllDeclareAs, declaration_ok}
use Rattle.typing_laws.proofs.Stated.{ContextOk, Itemed, files_outer}

-- ---- the declarator of a function

own_ok : (ts : List TagState) (ws : List Wrap) (p : Prototype) → AllWraps ts ws → own_prototype ws ≡ Some p →
    PrototypeOk ts p
own_ok ts [] p h e = absurd (none-some p e)
own_ok ts (Gives q ∷ []) p h e = subst (PrototypeOk ts) (same_Some q p e) h.0
own_ok ts (Point q ∷ []) p h e = absurd (none-some p e)
own_ok ts (Row n ∷ []) p h e = absurd (none-some p e)
own_ok ts (w ∷ v ∷ ws) p h e = own_ok ts (v ∷ ws) p h.1 e

own_type : (s : State) (ws : List Wrap) (f : Formed) (p : Prototype) → own_prototype ws ≡ Some p →
    (r : Ty) × ((form_on s ws f).of ≡ Function r (signature p.params))
own_type s [] f p e = absurd (none-some p e)
own_type s (Gives q ∷ []) f p e =
    (bare f.of, ap (λ (x : Prototype). Function (bare f.of) (signature x.params)) (same_Some q p e))
own_type s (Point q ∷ []) f p e = absurd (none-some p e)
own_type s (Row n ∷ []) f p e = absurd (none-some p e)
own_type s (w ∷ v ∷ ws) f p e = own_type s (v ∷ ws) (wrap_on s w f) p e

there_is : {A : Type 0} (o : Option A) → is_there o ≡ true → (x : A) × (o ≡ Some x)
there_is None e = absurd (false≢true e)
there_is (Some x) e = (x, refl)

-- ---- a state between the declarations of a file

pub record Outside (s : State) : Type 0 where
  pub inv : Inv true s
  pub strict : Strict s
  pub locals : s.locals ≡ []
  pub one : length s.scopes ≡ 1

no_items_left : {A : Type 0} (xs : List A) → length xs ≡ 0 → xs ≡ []
no_items_left [] e = refl
no_items_left (x ∷ xs) e = absurd (omega (arith, e))

no_local : (s : State) → s.locals ≡ [] → {P : Type 0} → (k : ℕ) (v : LocalState) → slice_get s.locals k ≡ Some v → P
no_local s e k v q = absurd (none-some v (ap (λ xs. slice_get xs k) (sym e) ∙ q))

-- ---- the parameters as variables

mapped_param : (ps : List Param) (k : ℕ) (p : Param) → slice_get ps k ≡ Some p →
    slice_get (map parameter_local ps) k ≡ Some (parameter_local p)
mapped_param ps k p e = slice_get-map parameter_local ps k ∙ ap (option_map parameter_local) e

param_there : (ts : List TagState) (ps : List Param) (k : ℕ) (p : Param) → AllParams ts ps → slice_get ps k ≡ Some p →
    ParamOk ts p
param_there ts [] k p h e = absurd cc
param_there ts (q ∷ ps) zero p h e = subst (ParamOk ts) (same_Some q p e) h.0
param_there ts (q ∷ ps) (suc k) p h e = param_there ts ps k p h.1 e

param_from : (ps : List Param) (k : ℕ) (v : LocalState) → slice_get (map parameter_local ps) k ≡ Some v →
    (p : Param) × (slice_get ps k ≡ Some p) × (v.of ≡ p.of)
param_from [] k v e = absurd cc
param_from (p ∷ ps) zero v e = (p, refl, ap (λ (v : LocalState). v.of) (sym (same_Some (parameter_local p) v e)))
param_from (p ∷ ps) (suc k) v e = param_from ps k v e

length-params : (ps : List Param) → length (map parameter_local ps) ≡ length ps
length-params [] = refl
length-params (p ∷ ps) = ap suc (length-params ps)

-- the state in which a body is typed
abbrev entered : State → Prototype → State
entered s p = record s { locals = map parameter_local p.params; scopes = p.scope ∷ s.scopes }

entered_refers : (s : State) (p : Prototype) → s.locals ≡ [] → Refers s (entered s p)
entered_refers s p e = record {
  tags = tags_self s.tags;
  statics = (refers_self s).statics;
  routines = (refers_self s).routines;
  texts = λ k x q. q;
  locals = λ k v q. no_local s e k v q;
}

param_entity : (s : State) (p : Prototype) → PrototypeOk s.tags p → (e : Entity) → ParamName p.params e →
    EntityOk true (entered s p) e
param_entity s p h (Local k t) q =
    let o = param_there s.tags p.params k q.0 h.params q.1 in (
      subst (TypeOk s.tags) q.2 o.type,
      (
        parameter_local q.0,
        mapped_param p.params k q.0 q.1,
        ap (λ t. refines t q.0.of) (sym q.2)
            ∙ refines_self q.0.of,
      ),
    )
param_entity s p h (Enumerator z) q = q
param_entity s p h (Static k) q = absurd q
param_entity s p h (Routine k) q = absurd q
param_entity s p h (Alias t) q = absurd q
param_entity s p h (scopes.Library k t) q = absurd q

entered_inv : (s : State) (p : Prototype) → PrototypeOk s.tags p → s.locals ≡ [] → Inv true s → Inv true (entered s p)
entered_inv s p h e i = record {
  tags = i.tags;
  names = (
    Rattle.typing_laws.proofs.Growing.names_more (ParamName p.params) (EntityOk true (entered s p))
        (param_entity s p h) p.scope.names h.scope,
    scopes_more (EntityOk true s) (EntityOk true (entered s p))
        (entity_kept true s (entered s p) (entered_refers s p e) (omega arith) (omega arith)) s.scopes i.names,
  );
  statics = i.statics;
  routines = i.routines;
  locals = λ k v q. let f = param_from p.params k v q in
      subst (TypeOk s.tags) (sym f.2) (param_there s.tags p.params k f.0 h.params f.1).type;
}

-- a list of scopes with one more in front
file_entered : (s r : State) (c : Scope) (cs : List Scope) → length cs ≡ 1 → AllFiles s (file_names cs) →
    AllFiles s (file_names (c ∷ cs))
file_entered s r c [] e h = absurd (omega (arith, e))
file_entered s r c (d ∷ cs) e h = h

no_length : (o : Option Extent) (x : Extent) → with_extent o (times 0) ≡ Some x → ⊥
no_length None x e = none-some x e
no_length (Some y) x e = none-some x e

complete_not_open : (ts : List TagState) (t : Ty) → Complete ts t → is_open t ≡ false
complete_not_open ts (Array t zero) c = absurd (no_length (Rattle.c_tree.specs.Scopes.type_extent ts t) c.0 c.1)
complete_not_open ts (Array t (suc n)) c = refl
complete_not_open ts Void c = refl
complete_not_open ts (Int k n) c = refl
complete_not_open ts (Cap b) c = refl
complete_not_open ts (Pointer t) c = refl
complete_not_open ts (Tagged n) c = refl
complete_not_open ts (Function r ps) c = refl
complete_not_open ts (Const t) c = refl

-- an item below the length
item_below : {A : Type 0} (xs : List A) (k : ℕ) → k < length xs → (x : A) × (slice_get xs k ≡ Some x)
item_below [] k l = absurd (omega (arith, l))
item_below (x ∷ xs) zero l = (x, refl)
item_below (x ∷ xs) (suc k) l = item_below xs k (omega (arith, l))

-- the first variables of a body are the parameters, whose types stay
fit_from : (ps : List Param) (vs : List LocalState) →
    ((k : ℕ) (p : Param) → slice_get ps k ≡ Some p → (w : LocalState) × (slice_get vs k ≡ Some w) × (w.of ≡ p.of)) →
    ParamsFit (signature ps) vs
fit_from [] vs f = tt
fit_from (p ∷ ps) [] f = absurd (let w = f 0 p refl in none-some w.0 w.1)
fit_from (p ∷ ps) (v ∷ vs) f =
    let w = f 0 p refl in
    let e : v.of ≡ p.of = ap (λ (v : LocalState). v.of) (same_Some v w.0 w.1) ∙ w.2 in (
      ap (λ t. refines (in_signature t) (in_signature p.of)) e ∙ refines_self (in_signature p.of),
      fit_from ps vs (λ k q i. f (suc k) q i),
    )

-- what a body reads
abbrev pub ReadsBody : Reading → Type 0
ReadsBody r = (c : Context) (s : State) → ContextOk s c → Inv true s → Strict s → (y : Items × State) →
    r.body c s ≡ Ok y → Itemed c s y

-- a function's body in another state
body_elsewhere : (q : State) (cs : List Scope) (ls : List LocalState) (t : Ty) (b : Body) → BodyOk q t b →
    BodyOk (record q { scopes = cs; locals = ls }) t b
body_elsewhere q cs ls t b h =
    let r : State = record q { scopes = cs; locals = ls } in
    let g : Refers (with_locals q b.vars) (with_locals r b.vars) =
    record {
      tags = tags_self q.tags;
      statics = (refers_self q).statics;
      routines = (refers_self q).routines;
      texts = λ k x e. e;
      locals = (refers_self (with_locals q b.vars)).locals;
    } in
    record {
      result = h.result;
      takes = h.takes;
      is = h.is;
      params = h.params;
      fit = h.fit;
      complete = h.complete;
      once = h.once;
      gives = h.gives;
      refined = h.refined;
      value = h.value;
      block = h.block;
      body = action_kept (with_locals q b.vars) (with_locals r b.vars) g h.gives outside b.action h.body;
    }

abbrev starting : Lexeme → RoutineState → RoutineState
starting t f = record f { name = t; begun = true }

abbrev ending : Body → RoutineState → RoutineState
ending b f = record f { body = Some b }

-- functions that are changed but for their types
routines_changed_at : (s : State) (f : RoutineState → RoutineState) (k : ℕ) → ((x : RoutineState) → (f x).of ≡ x.of) →
    ((x : RoutineState) → Rattle.typing_laws.proofs.Facts.IsUsed x.used →
    Rattle.typing_laws.proofs.Facts.IsUsed (f x).used) →
    Inv true s →
    Inv true (record s { routines = changed_at f s.routines k }) ×
    Grows false s (record s { routines = changed_at f s.routines k })
routines_changed_at s f k same used i =
    routines_moved true s (changed_at f s.routines k)
    (λ j g e. let y = changed_to f s.routines k j g e in (
      y.0,
      y.1,
      ⊎_elim (λ a. subst (RoutineGrows g) (sym a) (record { type = refines_self g.of; used = λ u. u }))
          (λ a. subst (RoutineGrows g) (sym a.1) (record
          { type = ap (refines g.of) (same g) ∙ refines_self g.of; used = used g })) y.2,
    ))
    (λ j h e. let x = changed_from f s.routines k j h e in
    ⊎_elim (λ a. subst (λ (z : RoutineState). TypeOk s.tags z.of × holds (is_function z.of)) (sym a)
    (i.routines j x.0 x.1))
    (λ a. subst (λ (z : RoutineState). TypeOk s.tags z.of × holds (is_function z.of)) (sym a.1)
    (subst (λ t. TypeOk s.tags t × holds (is_function t)) (sym (same x.0)) (i.routines j x.0 x.1))) x.2)
    (omega (arith, length-changed f s.routines k)) i

-- ---- a body

-- the function and its prototype, in the state before
pub record Heads (s : State) (k : ℕ) (p : Prototype) (u : Ty) : Type 0 where
  pub routine : RoutineState
  pub there : slice_get s.routines k ≡ Some routine
  pub type : routine.of ≡ u
  pub declared : Ty
  pub refined : refines (Function declared (signature p.params)) u ≡ true
  pub given : is_tagged (bare declared) ≡ true → Complete s.tags (bare declared)
  pub prototype : PrototypeOk s.tags p

abbrev AllComplete : List TagState → List Param → Type 0
AllComplete ts ps = (k : ℕ) (p : Param) → slice_get ps k ≡ Some p → Complete ts p.of

-- none of the parameters is incomplete
none_incomplete : (ts : List TagState) (ps : List Param) → first_incomplete ts ps ≡ None → AllComplete ts ps
none_incomplete ts [] e = λ k p q. absurd cc
none_incomplete ts (p ∷ ps) e = by (has_extent (type_extent ts p.of)) refl e (λ f. none_incomplete ts ps f)
  where
    by : (b : Bool) → has_extent (type_extent ts p.of) ≡ b →
        (if b then first_incomplete ts ps else Some p.at.pos) ≡ None →
        (first_incomplete ts ps ≡ None → AllComplete ts ps) → AllComplete ts (p ∷ ps)
    by true i e f zero q g = subst (λ (v : Param). Complete ts v.of) (same_Some p q g)
        (extent_there (type_extent ts p.of) i)
    by true i e f (suc k) q g = f e k q g
    by false i e f k q g = absurd (none-some p.at.pos (sym e))

refused_in : {A B : Type 0} (o : Option Pos) (d : Doing A) (f : A → Doing B) (s : State) (x : B × State) →
    ((refused_at 132 o >> d) >>= f) s ≡ Ok x → (o ≡ None) × ((d >>= f) s ≡ Ok x)
refused_in None d f s x e = (refl, e)
refused_in (Some p) d f s x e = refused _ x e

-- what a function gives stays complete where its type is refined
refined_complete : (ts : List TagState) (s t : Ty) → refines s t ≡ true → (is_tagged s ≡ true → Complete ts s) →
    is_tagged t ≡ true → Complete ts t
refined_complete ts s t e c h =
    let x = c (tagged_agrees (λ m n. m == n || m == 0) s t e ∙ h) in (x.0, refined_extent ts s t x.0 e x.1)

-- parameters are complete
params_complete : (ts : List TagState) (ps : List Param) (us : List TagState) →
    Rattle.typing_laws.proofs.Facts.TagsGrow ts us → AllComplete ts ps →
    (vs qs : List LocalState) (m : ℕ) (v : LocalState) →
    ((k : ℕ) (v : LocalState) → slice_get vs k ≡ Some v →
    (w : LocalState) × (slice_get qs k ≡ Some w) × LocalGrows v w) → vs ≡ map parameter_local ps → m < length vs →
    slice_get qs m ≡ Some v → Complete us v.of
params_complete ts ps us g h vs qs m v f e l q =
    let w = item_below vs m l in
    let p = param_from ps m w.0 (ap (λ xs. slice_get xs m) (sym e) ∙ w.1) in
    let z = f m w.0 w.1 in
    let c = h m p.0 p.1 in
    let d : Complete us w.0.of = subst (Complete us) (sym p.2) (complete_kept ts us g p.0.of c) in
    let same : v.of ≡ w.0.of =
    ap (λ (v : LocalState). v.of) (same_Some v z.0 (sym q ∙ z.1)) ∙ z.2.fixed (complete_not_open us w.0.of d) in
    subst (Complete us) (sym same) d

define_body_ok : (k : ℕ) (t : Lexeme) (u : Ty) (p : Prototype) (block : Syn) (r : Reading) (s : State) → Heads s k p u →
    ReadsBody r → Outside s → (x : Unit × State) → define_body k t u (Some p) block r s ≡ Ok x → Outside x.1
define_body_ok k t u p block r s hd h o x e =
    let ps = p.params in
    let f = function_refined hd.declared (signature ps) u hd.refined in
    let a1 = entered s p in
    let a : State = change_routine k (starting t) a1 in
    let i1 = entered_inv s p hd.prototype o.locals o.inv in
    let ch = routines_changed_at a1 (starting t) k (λ x. refl) (λ x u. u) i1 in
    let sa = refers_on s a1 a (entered_refers s p o.locals) ch.1.refers in
    let strict_a : Strict a = record {
      files = files_more s a (λ n j q. q) _ (file_entered s a p.scope s.scopes o.one o.strict.files);
      bodies = bodies_on s a o.strict sa (λ j y b q m. let v = changed_from (starting t) s.routines k j y q in
          ⊎_elim (λ z. (
            v.0,
            v.1,
            ap (λ (z : RoutineState). z.body) (sym z) ∙ m,
            ap (λ (y : RoutineState). refines v.0.of y.of) z ∙ refines_self v.0.of,
          ))
          (λ z. (
            v.0,
            v.1,
            ap (λ (z : RoutineState). z.body) (sym z.1) ∙ m,
            ap (λ (y : RoutineState). refines v.0.of y.of) z.1 ∙ refines_self v.0.of,
          )) v.2);
      begins = begins_on s a (follows s a sa (λ k z h. h)) (initials_self s a refl) o.strict.begins;
    } in
    let ctx = body_context u in
    let gives : given_by u ≡ bare f.result = ap given_by f.is in
    let tu : TypeOk s.tags (Function f.result f.takes) =
    subst (TypeOk s.tags) (hd.type ∙ f.is) (o.inv.routines k hd.routine hd.there).0 in
    let cok : ContextOk a ctx =
    record {
      type = subst (TypeOk s.tags) (sym gives) (bare_ok s.tags f.result tu.0);
      bare = ap bare gives
          ∙ bare_bare s.tags f.result tu.0 ∙ sym gives;
    } in
    let last : Items → Doing Unit =
    λ i. look >>= λ s. leave >> change (λ q.
    change_routine k (ending (record {
      params = numbers_from 0 (length (params_of (Some p)));
      vars = s.locals;
      action = block_action i (first_token block).pos;
    })) (record q { locals = [] })) in
    let all = refused_in (first_incomplete a.tags (params_of (Some p))) (r.body ctx) last a x e in
    let complete : AllComplete s.tags ps = none_incomplete s.tags ps all.0 in
    let y = first_then (r.body ctx a) last x all.1 in
    let j = h ctx a cok ch.0 strict_a y.0 y.1 in
    let q = y.0.1 in let it = y.0.0 in
    let b : Body = record {
      params = numbers_from 0 (length ps);
      vars = q.locals;
      action = block_action it (first_token block).pos;
    } in
    let back : outer_scopes q.scopes ≡ s.scopes = j.0.grown.outer in
    let r1 : State = record q { scopes = outer_scopes q.scopes; locals = [] } in
    let aq = j.0.grown.refers in
    let sq = refers_on s a q sa aq in
    let r1s : Refers s r1 = record {
      tags = sq.tags;
      statics = sq.statics;
      routines = sq.routines;
      texts = sq.texts;
      locals = λ k v q. no_local s o.locals k v q;
    } in
    let names1 : AllScopes (EntityOk true r1) (outer_scopes q.scopes) =
    subst (AllScopes (EntityOk true r1)) (sym back)
    (scopes_more (EntityOk true s) (EntityOk true r1)
    (entity_kept true s r1 r1s (omega (arith, j.0.grown.statics))
    (omega (arith, j.0.grown.routines, length-changed (starting t) s.routines k))) s.scopes o.inv.names) in
    let ir1 : Inv true r1 = record {
      tags = j.0.inv.tags;
      names = names1;
      statics = j.0.inv.statics;
      routines = j.0.inv.routines;
      locals = λ k v q. absurd (none-some v q);
    } in
    let fin = routines_changed_at r1 (ending b) k (λ x. refl) (λ x u. u) ir1 in
    let r2 : State = change_routine k (ending b) r1 in
    let qq2 : Refers (with_locals q q.locals) (with_locals r2 q.locals) =
    record {
      tags = fin.1.refers.tags;
      statics = fin.1.refers.statics;
      routines = fin.1.refers.routines;
      texts = fin.1.refers.texts;
      locals = (refers_self q).locals;
    } in
    let n = count_refined (signature ps) f.takes f.params in
    let len : count f.takes ≡ length ps = sym n ∙ signature_count ps in
    let la : length a.locals ≡ length ps = length-params ps in
    let fit : ParamsFit f.takes q.locals =
    params_refined (signature ps) f.takes q.locals f.params (fit_from ps q.locals (λ m v g.
    let w = aq.locals m (parameter_local v) (mapped_param ps m v g) in
    (w.0, w.1, w.2.fixed (complete_not_open s.tags v.of (complete m v g))))) in
    let given = given_value s.tags f.result tu.0 tu.1
    (refined_complete s.tags (bare hd.declared) (bare f.result)
    (bare_refines hd.declared f.result f.gives) hd.given) in
    let body : BodyOk r2 u b = record {
      result = f.result;
      takes = f.takes;
      is = f.is;
      params = ap (numbers_from 0) (sym len);
      fit = fit;
      complete = λ m v g. (
        ⊎_elim (λ lt. params_complete s.tags ps q.tags sq.tags complete a.locals q.locals m v
            (λ c w z. aq.locals c w z) refl lt g) (λ ge. j.0.post.complete m v ge g)
            (Rattle.std.proofs.lemmas.Bool.cases_lt m (length a.locals)),
        j.0.inv.locals m v g,
      );
      once = λ m. times_in-append m it.vars (all_declared (actions it.actions)) ∙ j.0.post.once m
          ∙ ap (λ z. between z (length q.locals) m) (la ∙ sym len);
      gives = given_by u;
      refined = ap (λ z. refines z (bare f.result)) gives ∙ refines_self (bare f.result);
      value = value_type_kept s.tags q.tags sq.tags (given_by u) (subst (IsValue s.tags) (sym gives) given);
      block = (it.vars, actions it.actions, (first_token block).pos, refl);
      body = (
        tt,
        are_locals_kept (with_locals q q.locals) (with_locals r2 q.locals) qq2 it.vars j.0.post.vars,
        actions_kept (with_locals q q.locals) (with_locals r2 q.locals) qq2 (given_by u) outside
            (actions it.actions) j.0.post.fits,
      );
    } in
    let kr : (z : RoutineState) → slice_get q.routines k ≡ Some z → refines u z.of ≡ true = λ z g.
    let w = sq.routines k hd.routine hd.there in
    ap (λ (v : RoutineState). refines u v.of) (same_Some z w.0 (sym g ∙ w.1))
    ∙ subst (λ t. refines t w.0.of ≡ true) hd.type w.2.type in
    let strict2 : Strict r2 = record {
      files = files_more q r2 (λ n j q. q) _ (files_outer q q.scopes j.1.files);
      bodies = λ m y c g d. let v = changed_from (ending b) q.routines k m y g in
          ⊎_elim (λ z. subst (λ t. BodyOk r2 t c) (ap (λ (z : RoutineState). z.of) (sym z))
          (body_kept r1 r2 v.0.of v.0.of c fin.1.refers (refines_self v.0.of)
          (body_elsewhere q (outer_scopes q.scopes) [] v.0.of c
          (j.1.bodies m v.0 c v.1 (ap (λ (z : RoutineState). z.body) (sym z) ∙ d)))))
          (λ z. let same : b ≡ c = same_Some b c (ap (λ (z : RoutineState). z.body) (sym z.1) ∙ d) in
          subst (BodyOk r2 y.of) same (subst (λ t. BodyOk r2 t b) (ap (λ (z : RoutineState). z.of) (sym z.1))
          (body_kept r2 r2 u v.0.of b (refers_self r2)
          (kr v.0 (ap (slice_get q.routines) (sym z.0) ∙ v.1)) body))) v.2;
      begins = begins_on q r2 (record {
        tags = fin.1.refers.tags;
        statics = fin.1.refers.statics;
        routines = fin.1.refers.routines;
        texts = fin.1.refers.texts;
        more = λ k z h. h;
      })
          (initials_self q r2 refl) j.1.begins;
    } in
    subst (λ (z : Unit × State). Outside z.1) (ok_is (tt, r2) x y.2)
    (record { inv = fin.0; strict = strict2; locals = refl; one = ap length back ∙ o.one })

-- ---- definitions and declarations

formed_own : (s : State) (t : Ty) (ws : List Wrap) (p : Prototype) → own_prototype ws ≡ Some p →
    (r : Ty) × ((formed s t ws).of ≡ Function r (signature p.params))
unfolding formed
formed_own s t ws p e = own_type s ws (plainly t) p e

-- a library function is not defined
library_refused : (s : State) (e : Option Entity) (name : List ℕ) (t : Ty) (j : ℕ) (u : Option Ty) →
    e ≡ Some (scopes.Library j u) → function_agrees s e name t true ≡ true → ⊥
library_refused s e name t j u i h = not_agreed u (subst (λ e. function_agrees s e name t true ≡ true) i h)
  where
    not_agreed : (u : Option Ty) → Rattle.c_tree.specs.Declarations.agrees_library u t true ≡ true → ⊥
    not_agreed None h = false≢true h
    not_agreed (Some v) h = false≢true (Rattle.std.proofs.lemmas.Bool.and_parts
        (Rattle.c_tree.specs.Types.compatible v t) false h).1

as_function : (s : State) (e : Option Entity) (name : List ℕ) (t : Ty) → is_function t ≡ true →
    definition_agrees s e name t ≡ true → function_agrees s e name t true ≡ true
as_function s e name t f a =
    sym (ap (λ b. if b then function_agrees s e name t true else object_agrees s e name t true) f) ∙ a

define_named_ok : (p : Specified) (d : Derived) (name : Option Lexeme) (block : Syn) (r : Reading) (s : State) →
    TypeOk s.tags p.of → AllWraps s.tags d.wraps → ReadsBody r → Outside s → (x : Unit × State) →
    define_named p d name block r s ≡ Ok x → Outside x.1
define_named_ok p d None block r s h k g o x e = refused _ x e
define_named_ok p d (Some t) block r s h k g o x e =
    let F = formed s p.of d.wraps in
    let en = find_in (innermost s.scopes).names t.text in
    let pr = own_prototype d.wraps in
    let misfits = is_typedef p.storage || (not (is_function F.of) || not (is_there pr)) in
    let lacks = not (gives_complete s F.of) in
    let y = first_then ((need (definition_agrees s en t.text F.of) 131 t.pos >> judge F lacks misfits t.pos
    >> linked_routine t F.of en) s) (λ k. look
    >>= λ now. define_body k t (routine_type (slice_get now.routines k)) pr block r) x e in
    let c = checked (definition_agrees s en t.text F.of) t.pos F lacks misfits (linked_routine t F.of en) s y.0 y.1 in
    let fits = or_parts (not (is_function F.of)) (not (is_there pr))
    (or_parts (is_typedef p.storage) (not (is_function F.of) || not (is_there pr)) c.1.fits).1 in
    let there = there_is pr (not_lacking (is_there pr) fits.1) in
    let agrees : function_agrees s en t.text F.of true ≡ true =
    as_function s en t.text F.of (not_lacking (is_function F.of) fits.0) c.0 in
    let ok = formed_ok s p.of d.wraps k c.1.passes h in
    let ty = formed_own s p.of d.wraps there.0 there.1 in
    let l = linked_routine_ok t F.of en true s agrees ok (ap is_function ty.1) o.inv o.strict y.0 c.2 in
    let q = y.0.1 in let n = y.0.0 in
    let may : may_be_given s ty.0 ≡ true =
    ap (gives_complete s) (sym ty.1) ∙ not_lacking (gives_complete s F.of) c.1.complete in
    let rt = l.post.there (λ j u w. library_refused s en t.text F.of j u w agrees) in
    let now = subst (λ z. define_body n t (routine_type (slice_get q.routines n)) z block r q ≡ Ok x) there.1 y.2 in
    let u = routine_type (slice_get q.routines n) in
    let is : u ≡ rt.0.of = ap routine_type rt.1 in
    define_body_ok n t u there.0 block r q
    (record {
      routine = rt.0;
      there = rt.1;
      type = sym is;
      declared = ty.0;
      refined = ap (refines (Function ty.0 (signature there.0.params))) is ∙ ap (λ t. refines t rt.0.of) (sym ty.1)
          ∙ rt.2;
      given = λ v. complete_kept s.tags q.tags l.grown.refers.tags (bare ty.0) (given_complete s ty.0 may v);
      prototype = prototype_kept s.tags q.tags l.grown.refers.tags there.0 (own_ok s.tags d.wraps there.0 k there.1);
    })
    g (record { inv = l.inv; strict = l.post.strict; locals = l.post.locals ∙ o.locals; one = l.grown.deep ∙ o.one }) x
    now
  where
    not_lacking : (b : Bool) → not b ≡ false → b ≡ true
    not_lacking true e = refl
    not_lacking false e = absurd (false≢true (sym e))

-- a step before that declares nothing
outside_behind : (s r : State) → Outside s → Inv true r → Grows true s r → Outside r
outside_behind s r o i g =
    record {
      inv = i;
      strict = strict_still s r o.strict g;
      locals = no_items_left r.locals (g.count ∙ ap length o.locals);
      one = g.deep ∙ o.one;
    }

pub function_definition_ok : (t : Lexeme) (xs : Syns) (rs : List Reading) (s : State) → AllDeclared rs →
    ((r q p : Reading) → rs ≡ r ∷ q ∷ p ∷ [] → ReadsBody p) → Outside s → (x : Unit × State) →
    function_definition t xs rs s ≡ Ok x → Outside x.1
unfolding function_definition
function_definition_ok t (more y (more z (more v nil))) (r ∷ q ∷ p ∷ []) s h b o x e =
    let f = first_then (r.specified false s) (λ n. q.derived >>= λ d. define_named n d d.name v p) x e in
    let l = regain true s (λ q p. TypeOk q.tags p.of) f.0 o.inv (h.0.specified false s (weaker true s o.inv) f.0 f.1) in
    let a = f.0.1 in
    let oa = outside_behind s a o l.inv l.grown in
    let g = first_then (q.derived a) (λ d. define_named f.0.0 d d.name v p) x f.2 in
    let m = regain true a (λ q d. AllWraps q.tags d.wraps) g.0 oa.inv
    (h.1.0.derived a (weaker true a oa.inv) g.0 g.1) in
    let c = g.0.1 in
    define_named_ok f.0.0 g.0.0 g.0.0.name v p c (type_kept a.tags c.tags m.grown.refers.tags f.0.0.of l.post) m.post
    (b r q p refl) (outside_behind a c oa m.inv m.grown) x g.2
function_definition_ok t xs rs s h b o x e = refused _ x e

pub external_ok : (k : NodeKind) (t : Lexeme) (xs : Syns) (rs : List Reading) (s : State) → AllDeclared rs →
    AllDeclareAs rs → ((r q p : Reading) → rs ≡ r ∷ q ∷ p ∷ [] → ReadsBody p) → Outside s → (x : Unit × State) →
    external_of k t xs rs s ≡ Ok x → Outside x.1
external_ok Kinds.FunctionDefinition t xs rs s h a b o x e = function_definition_ok t xs rs s h b o x e
external_ok Kinds.Declaration t xs rs s h a b o x e =
    let y = first_then (declaration t.pos rs s) (λ i. give tt) x e in
    let d = declaration_ok t.pos rs s h a o.inv o.strict y.0 y.1 in
    let k = d.kept (record { gives = Void; in_loop = false; breakable = false }) in
    given (λ (z : Unit × State). Outside z.1) tt y.0.1 x y.2
    (record {
      inv = k.inv;
      strict = d.strict;
      locals = no_items_left y.0.1.locals (d.file (eq-eqb (length s.scopes) 1 o.one) ∙ ap length o.locals);
      one =
          k.grown.deep ∙ o.one;
    })
external_ok k t xs rs s h a b o x e = given (λ (z : Unit × State). Outside z.1) tt s x e o

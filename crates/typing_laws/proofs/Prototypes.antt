-- Prototypes, whose parameters have a scope of their own (C11 6.7.6.3), and what names a type.
use Rattle.std.proofs.Common.{◌≡◌, ℕ, ◌+◌, Bool, true, false, List, [], ◌∷◌, ◌++◌, length, Option, Some, None, Ok, refl}
use Rattle.std.proofs.Common.{sym, ap, subst, ◌∙◌, arith, length-append, append_assoc}
use Rattle.std.specs.Prelude.{slice_get, ◌==◌, if◌then◌else◌}
use Rattle.std.proofs.lemmas.List.{append-nil}
use Rattle.ck_base.specs.Tokens.{Lexeme}
use Rattle.c_tree.specs.declared.syntax.NodeKind.{NodeKind}
use Rattle.c_tree.specs.declared.syntax.NodeKind.TheVariants as Kinds
use Rattle.c_tree.specs.Syntax.{Syns}
use Rattle.c_tree.specs.Types.{Ty}
use Rattle.c_tree.specs.Scopes.{Entity, Local, Static, Routine, Alias, Enumerator, Named, Scope, State, Doing, give}
use Rattle.c_tree.specs.Scopes.{look, change, ◌>>=◌, ◌>>◌, innermost, outer_scopes, in_innermost, bind_name, enter}
use Rattle.c_tree.specs.Scopes.{leave}
use Rattle.c_tree.specs.Scopes as scopes
use Rattle.c_tree.specs.Readings.{Param, Prototype, Reading}
use Rattle.c_tree.specs.Declarators.{bind_local, bind_parameter, parameter_list, prototype_of}
use Rattle.c_tree.specs.Programs.{type_of_kind}
use Rattle.typing_laws.proofs.Facts.{TypeOk, EntityOk, AllNames, AllScopes, Adds, none, Still, Inv, Grows, Kept}
use Rattle.typing_laws.proofs.Growing.{type_kept, still_self, grows_self, grows_on, grows_loose, scopes_more}
use Rattle.typing_laws.proofs.Growing.{names_more}
use Rattle.typing_laws.proofs.Growing.{names_added}
use Rattle.typing_laws.proofs.Steps.{given, refused, first_then, either}
use Rattle.typing_laws.proofs.Tags.{ParamOk, AllParams, ParamName, PrototypeOk, AllDeclared, name_bound, name_grows}
use Rattle.typing_laws.proofs.Tags.{there_in, last_of, record_specifier_ok, enum_specifier_ok}
use Rattle.typing_laws.proofs.Formed.{typedef_ok, type_name_ok}

-- parameters so far, and what their scope declares; no objects are new
pub record ListOk (s : State) (qs : List Param) (r : State) (ps : List Param) : Type 0 where
  pub params : AllParams r.tags ps
  pub names : AllNames (ParamName (qs ++ ps)) (innermost r.scopes).names
  pub count : length r.locals ≡ length s.locals
  pub still : Still s r

param_more : (qs ps : List Param) (e : Entity) → ParamName qs e → ParamName (qs ++ ps) e
param_more qs ps (Local k t) h = (h.0, there_in qs ps k h.0 h.1, h.2)
param_more qs ps (Enumerator z) h = h
param_more qs ps (Static k) h = absurd h
param_more qs ps (Routine k) h = absurd h
param_more qs ps (Alias t) h = absurd h
param_more qs ps (scopes.Library k t) h = absurd h

innermost_bound : (P : Entity → Type 0) (name : List ℕ) (e : Entity) (cs : List Scope) → P e →
    AllNames P (innermost cs).names →
    AllNames P (innermost (in_innermost (λ c. record c { names = record { name = name; is = e } ∷ c.names }) cs)).names
innermost_bound P name e [] h k = tt
innermost_bound P name e (c ∷ cs) h k = (h, k)

-- a parameter's name is in force behind it
record Bound (s : State) (qs : List Param) (p : Param) (r : State) : Type 0 where
  inv : Inv false r
  grown : Grows false s r
  names : AllNames (ParamName (qs ++ p ∷ [])) (innermost r.scopes).names
  count : length r.locals ≡ length s.locals
  still : Still s r

bound : (k : ℕ) (qs : List Param) (p : Param) (name : Option Lexeme) (s : State) → k ≡ length qs → ParamOk s.tags p →
    Inv false s → AllNames (ParamName qs) (innermost s.scopes).names → Bound s qs p (bind_local k p.of name s)
bound k qs p None s e h i n =
    record {
      inv = i;
      grown = grows_self false s;
      names = names_more (ParamName qs) (ParamName (qs ++ p ∷ [])) (param_more qs (p ∷ [])) _ n;
      count = refl;
      still =
          still_self s;
    }
bound k qs p (Some t) s e h i n = record {
  inv = name_bound false s t.text (Local k p.of) (h.type, tt) i;
  grown = name_grows s t.text (Local k p.of);
  names = innermost_bound (ParamName (qs ++ p ∷ [])) t.text (Local k p.of) s.scopes
      (p, subst (λ j. slice_get (qs ++ p ∷ []) j ≡ Some p) (sym e) (last_of qs p), refl)
      (names_more (ParamName qs) (ParamName (qs ++ p ∷ [])) (param_more qs (p ∷ [])) _ n);
  count = refl;
  still = record { locals = refl; statics = refl; routines = refl; pending = refl };
}

still_onward : (s r q : State) → Still s r → Still r q → Still s q
still_onward s r q g h = record {
  locals = h.locals ∙ g.locals;
  statics = h.statics ∙ g.statics;
  routines = h.routines
      ∙ g.routines;
  pending = h.pending ∙ g.pending;
}

list_onward : (s r : State) (qs : List Param) (x : List Param × State) → Grows false s r →
    length r.locals ≡ length s.locals → Still s r → Kept false false r (ListOk r qs) x →
    Kept false false s (ListOk s qs) x
list_onward s r qs x g c t k = record {
  inv = k.inv;
  grown = grows_on false s r x.1 g k.grown;
  post = record {
    params = k.post.params;
    names = k.post.names;
    count = k.post.count ∙ c;
    still = still_onward s r x.1 t k.post.still;
  };
}

params_then : (s : State) (qs : List Param) (p : Param) (y : List Param × State) → ParamOk y.1.tags p →
    Kept false false s (ListOk s (qs ++ p ∷ [])) y → (x : List Param × State) → give (p ∷ y.0) y.1 ≡ Ok x →
    Kept false false s (ListOk s qs) x
params_then s qs p y h k x e =
    given (Kept false false s (ListOk s qs)) (p ∷ y.0) y.1 x e (record {
      inv = k.inv;
      grown = k.grown;
      post = record {
        params = (h, k.post.params);
        names = subst (λ zs. AllNames (ParamName zs) (innermost y.1.scopes).names)
            (append_assoc qs (p ∷ []) y.0) k.post.names;
        count = k.post.count;
        still = k.post.still;
      };
    })

parameter_list_ok : (rs : List Reading) (k : ℕ) (only : Bool) (qs : List Param) (s : State) → AllDeclared rs →
    k ≡ length qs → Inv false s → AllNames (ParamName qs) (innermost s.scopes).names → (x : List Param × State) →
    parameter_list k only rs s ≡ Ok x → Kept false false s (ListOk s qs) x
parameter_list_ok [] k only qs s h c i n x e =
    given (Kept false false s (ListOk s qs)) [] s x e
    (record {
      inv = i;
      grown = grows_self false s;
      post = record { params = tt; names = rw (append-nil qs) n; count = refl; still = still_self s };
    })
parameter_list_ok (r ∷ rs) k only qs s h c i n x e =
    let go : Param → Doing (List Param) =
    λ p. (if p.nothing then give []
    else change (bind_parameter k p) >> parameter_list (k + 1) only rs >>= λ ps. give (p ∷ ps)) in
    let f = first_then (r.parameter only s) go x e in
    let l = h.0.parameter only s i f.0 f.1 in
    let p = f.0.0 in let a = f.0.1 in
    let names : AllNames (ParamName qs) (innermost a.scopes).names =
    names_added (ParamName qs) (λ z w. w) l.grown.names n in
    list_onward s a qs x (grows_loose false s a l.grown) l.grown.count l.grown.still
    (either p.nothing (give []) (change (bind_parameter k p) >> parameter_list (k + 1) only rs >>= λ ps. give (p ∷ ps))
    a x (Kept false false a (ListOk a qs) x)
    (λ _ g. given (Kept false false a (ListOk a qs)) [] a x g
    (record {
      inv = l.inv;
      grown = grows_self false a;
      post = record { params = tt; names = rw (append-nil qs) names; count = refl; still = still_self a };
    }))
    (λ w g.
    let b = bound k qs p p.name a c (l.post w) l.inv names in
    let q : State = bind_local k p.of p.name a in
    let y = first_then (parameter_list (k + 1) only rs q) (λ ps. give (p ∷ ps)) x g in
    let z = parameter_list_ok rs (k + 1) only (qs ++ p ∷ []) q h.1
    (omega (arith, c, length-append qs (p ∷ []))) b.inv b.names y.0 y.1 in
    let u = list_onward a q (qs ++ p ∷ []) y.0 b.grown b.count b.still z in
    let ok : ParamOk y.0.1.tags p =
    record { type = type_kept a.tags y.0.1.tags u.grown.refers.tags p.of (l.post w).type } in
    params_then a qs p y.0 ok u x y.2) f.2)

outer_all : (P : Entity → Type 0) (cs : List Scope) → AllScopes P cs → AllScopes P (outer_scopes cs)
outer_all P [] h = tt
outer_all P (c ∷ cs) h = h.1

-- a state behind the end of a scope
left_inv : (m : Bool) (s : State) → Inv m s → Inv m (record s { scopes = outer_scopes s.scopes })
left_inv m s i = record {
  tags = i.tags;
  names = scopes_more (EntityOk m s) (EntityOk m (record s { scopes = outer_scopes s.scopes }))
      (same_entity m s (outer_scopes s.scopes)) (outer_scopes s.scopes) (outer_all (EntityOk m s) s.scopes i.names);
  statics = i.statics;
  routines = i.routines;
  locals = i.locals;
}
  where
    same_entity : (m : Bool) (s : State) (cs : List Scope) (e : Entity) → EntityOk m s e →
        EntityOk m (record s { scopes = cs }) e
    same_entity m s cs (Local k t) h = h
    same_entity m s cs (Static k) h = h
    same_entity m s cs (Routine k) h = h
    same_entity m s cs (Alias t) h = h
    same_entity m s cs (Enumerator z) h = h
    same_entity m s cs (scopes.Library k t) h = h

pub prototype_ok : (rs : List Reading) (s : State) → AllDeclared rs → Inv false s → (x : Prototype × State) →
    prototype_of rs s ≡ Ok x → Kept false true s (λ q p. PrototypeOk q.tags p) x
unfolding prototype_of
prototype_ok rs s h i x e =
    let inside : State = record s { scopes = record { names = []; tags = [] } ∷ s.scopes } in
    let j : Inv false inside =
    record {
      tags = i.tags;
      names = (
        tt,
        scopes_more (EntityOk false s) (EntityOk false inside) (within s) s.scopes i.names,
      );
      statics =
          i.statics;
      routines = i.routines;
      locals = i.locals;
    } in
    let y = first_then (parameter_list 0 (length rs == 1) rs inside)
    (λ ps q. Ok (
      record { params = ps; scope = innermost q.scopes },
      record q { scopes = outer_scopes q.scopes },
    )) x e in
    let k = parameter_list_ok rs 0 (length rs == 1) [] inside h refl j tt y.0 y.1 in
    let r = y.0.1 in
    let back : outer_scopes r.scopes ≡ s.scopes = k.grown.outer in
    given (Kept false true s (λ q p. PrototypeOk q.tags p)) (record { params = y.0.0; scope = innermost r.scopes })
    (record r { scopes = outer_scopes r.scopes }) x y.2 (record {
      inv = left_inv false r k.inv;
      grown = record {
        refers = record {
          tags = k.grown.refers.tags;
          statics = k.grown.refers.statics;
          routines = k.grown.refers.routines;
          texts = k.grown.refers.texts;
          locals = k.grown.refers.locals;
        };
        opened = k.grown.opened;
        outer = ap outer_scopes back;
        deep = ap length back;
        names = subst (λ cs. Adds (innermost s.scopes).names (innermost cs).names) (sym back) none;
        count = k.post.count;
        still = record {
          locals = k.post.still.locals;
          statics = k.post.still.statics;
          routines = k.post.still.routines;
          pending = k.post.still.pending;
        };
        statics = k.grown.statics;
        routines = k.grown.routines;
      };
      post = record { params = k.post.params; scope = k.post.names };
    })
  where
    within : (s : State) (e : Entity) → EntityOk false s e →
        EntityOk false (record s { scopes = record { names = []; tags = [] } ∷ s.scopes }) e
    within s (Local k t) h = h
    within s (Static k) h = h
    within s (Routine k) h = h
    within s (Alias t) h = h
    within s (Enumerator z) h = h
    within s (scopes.Library k t) h = h

-- what names a type
pub kind_type_ok : (k : NodeKind) (t : Lexeme) (xs : Syns) (rs : List Reading) (alone : Bool) (s : State) →
    AllDeclared rs → Inv false s → (x : Ty × State) → type_of_kind k t xs rs alone s ≡ Ok x →
    Kept false true s (λ q t. TypeOk q.tags t) x
kind_type_ok Kinds.TypedefName t xs rs alone s h i x e = typedef_ok t s i x e
kind_type_ok (Kinds.Record k) t xs rs alone s h i x e = record_specifier_ok k alone t xs rs s h i x e
kind_type_ok Kinds.Enum t xs rs alone s h i x e = enum_specifier_ok xs rs s h i x e
kind_type_ok Kinds.TypeName t xs rs alone s h i x e = type_name_ok t xs rs s h i x e
kind_type_ok k t xs rs alone s h i x e = refused _ x e

-- What holds of the parts of a program stays while the state grows.
use Rattle.std.proofs.Common.{◌≡◌, ℕ, zero, suc, ◌<◌, Bool, true, false, List, [], ◌∷◌, length, Option, Some, None}
use Rattle.std.proofs.Common.{refl, sym, ap, subst, ◌∙◌, inl, inr, ⊎_elim, arith}
use Rattle.std.specs.Prelude.{slice_get, ◌==◌, ◌||◌, ℤ}
use Rattle.std.proofs.lemmas.Option.{none-some, slice_get_within}
use Rattle.std.proofs.lemmas.Bool.{false≢true, and_parts, or_cases, eqb-true}
use Rattle.c_tree.specs.Layout.{Extent, with_extent, times}
use Rattle.c_tree.specs.Types.{Ty, Void, Int, Cap, Pointer, Array, Tagged, Function, Const, Tys, no_types, also}
use Rattle.c_tree.specs.Types.{same_kind}
use Rattle.c_tree.specs.Terms as tree
use Rattle.c_tree.specs.Terms.{Shape, Term, Terms, term, no_terms, with_term, type_of}
use Rattle.c_tree.specs.Scopes.{Entity, Enumerator, Named, Scope, TagState, State, type_extent, tag_extent, innermost}
use Rattle.c_tree.specs.Scopes.{outer_scopes}
use Rattle.c_tree.specs.Declarators.{in_int}
use Rattle.c_tree.specs.Declarations.{is_open}
use Rattle.c_tree.specs.WellTyped.{holds}
use Rattle.typing_laws.proofs.Agreeing.{refines, refines_self, refines_on, kinds_are}
use Rattle.typing_laws.proofs.Facts.{When, Complete, Sized, TypeOk, TypesOk, IsValue, scalar, nothing, tagged, PointsTo}
use Rattle.typing_laws.proofs.Facts.{LocalOk, StaticOk, RoutineOk, MemberOk, AllTaken, ShapeOk, TermOk, TermsOk}
use Rattle.typing_laws.proofs.Facts.{OperandOk}
use Rattle.typing_laws.proofs.Facts.{ValueOk, AllNames, AllScopes, TagGrows, TagsGrow, Refers, Adds, none, one, Still}
use Rattle.typing_laws.proofs.Facts.{Grows}

pub when_map : (m : Bool) (A B : Type 0) → (A → B) → When m A → When m B
when_map true A B f a = f a
when_map false A B f a = tt

pub when_all : (m : Bool) (A : Type 0) → A → When m A
when_all true A a = a
when_all false A a = tt

-- ---- extents

pub with_known : {A : Type 0} (o r : Option Extent) (f : Extent → Option A) (x : A) →
    ((y : Extent) → o ≡ Some y → r ≡ Some y) → with_extent o f ≡ Some x → with_extent r f ≡ Some x
with_known None r f x h e = absurd (none-some x e)
with_known (Some y) r f x h e = rw (h y refl) e

tag_kept : (ts us : List TagState) → TagsGrow ts us → (n : ℕ) (o : Option TagState) (x : Extent) → slice_get ts n ≡ o →
    tag_extent o ≡ Some x → tag_extent (slice_get us n) ≡ Some x
tag_kept ts us g n None x e h = absurd (none-some x h)
tag_kept ts us g n (Some t) x e h = let u = g n t e in rw (u.1, u.2.known x h) h

pub extent_kept : (ts us : List TagState) → TagsGrow ts us → (t : Ty) (x : Extent) → type_extent ts t ≡ Some x →
    type_extent us t ≡ Some x
extent_kept ts us g Void x e = e
extent_kept ts us g (Int k n) x e = e
extent_kept ts us g (Cap s) x e = e
extent_kept ts us g (Pointer t) x e = e
extent_kept ts us g (Array t n) x e =
    with_known (type_extent ts t) (type_extent us t) (times n) x (λ y h. extent_kept ts us g t y h) e
extent_kept ts us g (Tagged n) x e = tag_kept ts us g n (slice_get ts n) x refl e
extent_kept ts us g (Function r ps) x e = e
extent_kept ts us g (Const t) x e = extent_kept ts us g t x e

pub complete_kept : (ts us : List TagState) → TagsGrow ts us → (t : Ty) → Complete ts t → Complete us t
complete_kept ts us g t c = (c.0, extent_kept ts us g t c.0 c.1)

sized_kept : (ts us : List TagState) → TagsGrow ts us → (t : Ty) → Sized ts t → Sized us t
sized_kept ts us g t c = (c.0, extent_kept ts us g t c.0 c.1, c.2)

timed : (o : Option Extent) (m n : ℕ) (x : Extent) → (m == n || m == 0) ≡ true → with_extent o (times m) ≡ Some x →
    (y : Extent) × (o ≡ Some y) × (times n y ≡ Some x)
timed None m n x l e = absurd (none-some x e)
timed (Some y) zero n x l e = absurd (none-some x e)
timed (Some y) (suc m) n x l e =
    elim (or_cases (suc m == n) (suc m == 0) l) as (λ _. (y' : Extent) × (Some y ≡ Some y') × (times n y' ≡ Some x)) [
      | inl a ↦ (y, refl, rw (← eqb-true (suc m) n a) e)
      | inr b ↦ absurd (let z : suc m ≡ 0 = eqb-true (suc m) 0 b in omega arith)
    ]

-- a struct or union that is complete is there
pub complete_there : (ts : List TagState) (n : ℕ) → Complete ts (Tagged n) → n < length ts
complete_there ts n c = by_tag (slice_get ts n) refl c.1
  where
    by_tag : (o : Option TagState) → slice_get ts n ≡ o → tag_extent o ≡ Some c.0 → n < length ts
    by_tag None e f = absurd (none-some c.0 f)
    by_tag (Some t) e f = slice_get_within ts n t e

-- more lengths leave an extent as it is
pub refined_extent : (ts : List TagState) (s t : Ty) (x : Extent) → refines s t ≡ true → type_extent ts s ≡ Some x →
    type_extent ts t ≡ Some x
refined_extent ts Void Void x r e = e
refined_extent ts (Int j m) (Int k n) x r e = let p = and_parts (same_kind j k) (m == n) r in rw (← kinds_are j k p.0) e
refined_extent ts (Cap a) (Cap b) x r e = e
refined_extent ts (Pointer s) (Pointer t) x r e = e
refined_extent ts (Array s m) (Array t n) x r e =
    let p = and_parts (refines s t) (m == n || m == 0) r in
    let y = timed (type_extent ts s) m n x p.1 e in
    rw (refined_extent ts s t y.0 p.0 y.1) y.2
refined_extent ts (Tagged m) (Tagged n) x r e = rw (← eqb-true m n r) e
refined_extent ts (Function r ps) (Function s qs) x h e = e
refined_extent ts (Const s) (Const t) x r e = refined_extent ts s t x r e
refined_extent ts s t x r e = absurd (false≢true r)

item_there : {A : Type 0} (xs : List A) (k : ℕ) → k < length xs → (x : A) × (slice_get xs k ≡ Some x)
item_there [] k lt = absurd (omega arith)
item_there (x ∷ xs) zero lt = (x, refl)
item_there (x ∷ xs) (suc k) lt = item_there xs k (omega arith)

mutual
  pub type_kept : (ts us : List TagState) → TagsGrow ts us → (t : Ty) → TypeOk ts t → TypeOk us t
  type_kept ts us g Void h = tt
  type_kept ts us g (Int k n) h = tt
  type_kept ts us g (Cap s) h = tt
  type_kept ts us g (Pointer t) h = type_kept ts us g t h
  type_kept ts us g (Array t n) h = (type_kept ts us g t h.0, h.1, extent_kept ts us g t h.1 h.2, h.3)
  type_kept ts us g (Tagged n) h = let t = item_there ts n h in slice_get_within us n _ (g n t.0 t.1).1
  type_kept ts us g (Function r ps) h = (type_kept ts us g r h.0, h.1, types_kept ts us g ps h.2)
  type_kept ts us g (Const t) h = (type_kept ts us g t h.0, h.1)

  pub types_kept : (ts us : List TagState) → TagsGrow ts us → (ps : Tys) → TypesOk ts ps → TypesOk us ps
  types_kept ts us g no_types h = tt
  types_kept ts us g (also t ps) h = (type_kept ts us g t h.0, h.1, types_kept ts us g ps h.2)

pub value_type_kept : (ts us : List TagState) → TagsGrow ts us → (t : Ty) → IsValue ts t → IsValue us t
value_type_kept ts us g t (scalar h) = scalar h
value_type_kept ts us g t (nothing e) = nothing e
value_type_kept ts us g t (tagged n e c) = tagged n e (complete_kept ts us g t c)

points_kept : (ts us : List TagState) → TagsGrow ts us → (t : Ty) → PointsTo ts t → PointsTo us t
points_kept ts us g t h = (h.0, h.1, sized_kept ts us g h.0 h.2)

-- ---- terms

pub local_kept : (s r : State) → Refers s r → (k : ℕ) (t : Ty) → LocalOk s k t → LocalOk r k t
local_kept s r g k t h = let w = g.locals k h.0 h.1 in (w.0, w.1, refines_on t h.0.of w.0.of h.2 w.2.type)

static_kept : (s r : State) → Refers s r → (k : ℕ) (t : Ty) → StaticOk s k t → StaticOk r k t
static_kept s r g k t h =
    let w = g.statics k h.0 h.1 in (w.0, w.1, refines_on t h.0.of w.0.of h.2 w.2.type, w.2.used h.3)

routine_kept : (s r : State) → Refers s r → (k : ℕ) (t : Ty) → RoutineOk s k t → RoutineOk r k t
routine_kept s r g k t h =
    let w = g.routines k h.0 h.1 in (w.0, w.1, refines_on t h.0.of w.0.of h.2 w.2.type, w.2.used h.3)

member_kept : (ts us : List TagState) → TagsGrow ts us → (a : Ty) (k : ℕ) (t : Ty) → MemberOk ts a k t →
    MemberOk us a k t
member_kept ts us g a k t h =
    let u = g h.0 h.1 h.5 in
    let e = u.2.parts h.2 h.6 in
    (h.0, h.1, h.2, h.3, h.4, u.1 ∙ ap Some e, h.6, h.7, h.8)

pub taken_kept : (ts us : List TagState) → TagsGrow ts us → (ps : Tys) → AllTaken ts ps → AllTaken us ps
taken_kept ts us g no_types h = tt
taken_kept ts us g (also p ps) h = (h.0, complete_kept ts us g p h.1, taken_kept ts us g ps h.2)

shape_kept : (m : Bool) (s r : State) → Refers s r → (n : Shape) (xs : Terms) (t : Ty) → ShapeOk m s n xs t →
    ShapeOk m r n xs t
shape_kept m s r g (tree.Constant n) no_terms t h = (h.0, h.1, type_kept s.tags r.tags g.tags t h.2)
shape_kept m s r g (tree.Literal k) no_terms t h =
    (h.0, h.1, h.2, when_map m _ _ (λ x. (x.0, g.texts k x.0 x.1, x.2)) h.3)
shape_kept m s r g (tree.Var k) no_terms t h = when_map m _ _ (local_kept s r g k t) h
shape_kept m s r g (tree.Global k) no_terms t h = when_map m _ _ (static_kept s r g k t) h
shape_kept m s r g (tree.Fun k) no_terms t h = when_map m _ _ (routine_kept s r g k t) h
shape_kept m s r g tree.Load (with_term a no_terms) t h = (h.0, h.1, value_type_kept s.tags r.tags g.tags t h.2, h.3)
shape_kept m s r g tree.Decay (with_term a no_terms) t h = h
shape_kept m s r g tree.Deref (with_term a no_terms) t h =
    (h.0, ⊎_elim (λ c. inl (sized_kept s.tags r.tags g.tags t c)) (λ f. inr f) h.1)
shape_kept m s r g (tree.Member k) (with_term a no_terms) t h = member_kept s.tags r.tags g.tags (type_of a) k t h
shape_kept m s r g tree.Address (with_term a no_terms) t h = h
shape_kept m s r g tree.Convert (with_term a no_terms) t h = (h.0, type_kept s.tags r.tags g.tags t h.1)
shape_kept m s r g (tree.Unary o) (with_term a no_terms) t h = h
shape_kept m s r g (tree.Step adds in_front) (with_term a no_terms) t h =
    (h.0, h.1, ⊎_elim (λ i. inl i) (λ c. inr (points_kept s.tags r.tags g.tags t c)) h.2)
shape_kept m s r g (tree.Arithmetic o) (with_term a (with_term b no_terms)) t h = h
shape_kept m s r g (tree.Capability o d) (with_term a (with_term b no_terms)) t h = h
shape_kept m s r g (tree.Plus minus) (with_term a (with_term b no_terms)) t h =
    (points_kept s.tags r.tags g.tags t h.0, h.1)
shape_kept m s r g tree.Difference (with_term a (with_term b no_terms)) t h =
    (points_kept s.tags r.tags g.tags (type_of a) h.0, points_kept s.tags r.tags g.tags (type_of b) h.1, h.2)
shape_kept m s r g (tree.Compare o) (with_term a (with_term b no_terms)) t h = h
shape_kept m s r g tree.And (with_term a (with_term b no_terms)) t h = h
shape_kept m s r g tree.Or (with_term a (with_term b no_terms)) t h = h
shape_kept m s r g tree.Comma (with_term a (with_term b no_terms)) t h = h
shape_kept m s r g tree.Assign (with_term a (with_term b no_terms)) t h =
    (h.0, h.1, h.2, h.3, complete_kept s.tags r.tags g.tags t h.4)
shape_kept m s r g (tree.Compound o of) (with_term a (with_term b no_terms)) t h =
    (h.0, h.1, ⊎_elim (λ p. inl (points_kept s.tags r.tags g.tags t p.0, p.1, p.2)) (λ p. inr p) h.2)
shape_kept m s r g tree.Conditional (with_term a (with_term b (with_term c no_terms))) t h = h
shape_kept m s r g tree.Call (with_term f xs) t h =
    (h.0, h.1, h.2, h.3, h.4, value_type_kept s.tags r.tags g.tags t h.5, taken_kept s.tags r.tags g.tags h.1 h.6)
shape_kept m s r g (tree.Library k) xs t h = h
shape_kept m s r g n xs t h = absurd h

mutual
  pub term_kept : (m : Bool) (s r : State) → Refers s r → (x : Term) → TermOk m s x → TermOk m r x
  term_kept m s r g (term n xs t p) h = (terms_kept m s r g xs h.0, shape_kept m s r g n xs t h.1)

  pub terms_kept : (m : Bool) (s r : State) → Refers s r → (xs : Terms) → TermsOk m s xs → TermsOk m r xs
  terms_kept m s r g no_terms h = tt
  terms_kept m s r g (with_term x xs) h = (term_kept m s r g x h.0, terms_kept m s r g xs h.1)

pub operand_kept : (m : Bool) (s r : State) → Refers s r → (x : Term) → OperandOk m s x → OperandOk m r x
operand_kept m s r g x h = record {
  fits = term_kept m s r g x h.fits;
  type = type_kept s.tags r.tags g.tags (type_of x) h.type;
  valued = λ e. ⊎_elim (λ f. inl f) (λ v. inr (value_type_kept s.tags r.tags g.tags (type_of x) v)) (h.valued e);
  placed = h.placed;
}

pub value_kept : (m : Bool) (s r : State) → Refers s r → (x : Term) → ValueOk m s x → ValueOk m r x
value_kept m s r g x h = record {
  fits = term_kept m s r g x h.fits;
  type = type_kept s.tags r.tags g.tags (type_of x) h.type;
  value = value_type_kept s.tags r.tags g.tags (type_of x) h.value;
}

-- ---- growth is a preorder

pub tags_self : (ts : List TagState) → TagsGrow ts ts
tags_self ts k t e = (t, e, record { kind = refl; known = λ x h. refl; parts = λ ms h. refl })

tag_on : (t u v : TagState) → TagGrows t u → TagGrows u v → TagGrows t v
tag_on t u v g h = record {
  kind = g.kind ∙ h.kind;
  known = λ x e. let i = g.known x e in h.known x (ap (λ (w : TagState). w.extent) i ∙ e) ∙ i;
  parts = λ ms e. let i = g.parts ms e in h.parts ms (ap (λ (w : TagState). w.members) i ∙ e) ∙ i;
}

pub tags_on : (ts us vs : List TagState) → TagsGrow ts us → TagsGrow us vs → TagsGrow ts vs
tags_on ts us vs g h k t e =
    let u = g k t e in let v = h k u.0 u.1 in (v.0, v.1, tag_on t u.0 v.0 u.2 v.2)

pub refers_self : (s : State) → Refers s s
refers_self s = record {
  tags = tags_self s.tags;
  statics = λ k g e. (g, e, record { type = refines_self g.of; used = λ u. u });
  routines = λ k g e. (g, e, record { type = refines_self g.of; used = λ u. u });
  texts = λ k x e. e;
  locals = λ k v e. (v, e, record { type = refines_self v.of; fixed = λ _. refl });
}

pub refers_on : (s r q : State) → Refers s r → Refers r q → Refers s q
refers_on s r q g h = record {
  tags = tags_on s.tags r.tags q.tags g.tags h.tags;
  statics = λ k x e. let a = g.statics k x e in let b = h.statics k a.0 a.1 in
      (b.0, b.1, record { type = refines_on x.of a.0.of b.0.of a.2.type b.2.type; used = λ u. b.2.used (a.2.used u) });
  routines = λ k x e. let a = g.routines k x e in let b = h.routines k a.0 a.1 in
      (b.0, b.1, record { type = refines_on x.of a.0.of b.0.of a.2.type b.2.type; used = λ u. b.2.used (a.2.used u) });
  texts = λ k x e. h.texts k x (g.texts k x e);
  locals = λ k x e. let a = g.locals k x e in let b = h.locals k a.0 a.1 in (
    b.0,
    b.1,
    record {
      type = refines_on x.of a.0.of b.0.of a.2.type b.2.type;
      fixed = λ o. let f = a.2.fixed o in
          b.2.fixed (ap is_open f ∙ o) ∙ f;
    },
  );
}

adds_on : {xs ys zs : List (Named Entity)} → Adds xs ys → Adds ys zs → Adds xs zs
adds_on p none = p
adds_on p (one name z h q) = one name z h (adds_on p q)

when_both : (e : Bool) (A B C : Type 0) → (A → B → C) → When e A → When e B → When e C
when_both true A B C f a b = f a b
when_both false A B C f a b = tt

pub still_self : (s : State) → Still s s
still_self s = record { locals = refl; statics = refl; routines = refl; pending = refl }

still_on : (s r q : State) → Still s r → Still r q → Still s q
still_on s r q g h = record {
  locals = h.locals ∙ g.locals;
  statics = h.statics ∙ g.statics;
  routines = h.routines
      ∙ g.routines;
  pending = h.pending ∙ g.pending;
}

pub grows_self : (e : Bool) (s : State) → Grows e s s
grows_self e s = record {
  refers = refers_self s;
  opened = λ k t e b. e;
  outer = refl;
  deep = refl;
  names = when_all e _ none;
  count = when_all e _ refl;
  still = when_all e _ (still_self s);
  statics = omega arith;
  routines = omega arith;
}

pub grows_on : (e : Bool) (s r q : State) → Grows e s r → Grows e r q → Grows e s q
grows_on e s r q g h = record {
  refers = refers_on s r q g.refers h.refers;
  opened = λ k t e b. h.opened k t (g.opened k t e b) b;
  outer = h.outer ∙ g.outer;
  deep = h.deep ∙ g.deep;
  names = when_both e _ _ _ adds_on g.names h.names;
  count = when_both e _ _ _ (λ a b. b ∙ a) g.count h.count;
  still = when_both e _ _ _ (still_on s r q) g.still h.still;
  statics = omega (arith, g.statics, h.statics);
  routines = omega (arith, g.routines, h.routines);
}

-- a step that changes no more than an expression does
pub grows_loose : (e : Bool) (s r : State) → Grows true s r → Grows e s r
grows_loose true s r g = g
grows_loose false s r g =
    record {
      refers = g.refers;
      opened = g.opened;
      outer = g.outer;
      deep = g.deep;
      names = tt;
      count = tt;
      still = tt;
      statics = g.statics;
      routines = g.routines;
    }

-- ---- names

pub names_more : (P Q : Entity → Type 0) → ((e : Entity) → P e → Q e) → (xs : List (Named Entity)) → AllNames P xs →
    AllNames Q xs
names_more P Q f [] h = tt
names_more P Q f (x ∷ xs) h = (f x.is h.0, names_more P Q f xs h.1)

pub scopes_more : (P Q : Entity → Type 0) → ((e : Entity) → P e → Q e) → (cs : List Scope) → AllScopes P cs →
    AllScopes Q cs
scopes_more P Q f [] h = tt
scopes_more P Q f (c ∷ cs) h = (names_more P Q f c.names h.0, scopes_more P Q f cs h.1)

pub names_added : (P : Entity → Type 0) → ((z : ℤ) → holds (in_int z) → P (Enumerator z)) →
    {xs ys : List (Named Entity)} → Adds xs ys → AllNames P xs → AllNames P ys
names_added P f none h = h
names_added P f (one name z i q) h = (f z i, names_added P f q h)

-- names that held still do where enumeration constants alone are new
pub scopes_added : (P : Entity → Type 0) → ((z : ℤ) → holds (in_int z) → P (Enumerator z)) → (cs ds : List Scope) →
    outer_scopes ds ≡ outer_scopes cs → length ds ≡ length cs → Adds (innermost cs).names (innermost ds).names →
    AllScopes P cs → AllScopes P ds
scopes_added P f [] [] o l a h = tt
scopes_added P f [] (d ∷ ds) o l a h = absurd (omega (arith, l))
scopes_added P f (c ∷ cs) [] o l a h = absurd (omega (arith, l))
scopes_added P f (c ∷ cs) (d ∷ ds) o l a h = (names_added P f a h.0, subst (AllScopes P) (sym o) h.1)

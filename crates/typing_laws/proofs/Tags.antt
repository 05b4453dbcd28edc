-- Structs, unions, enumerations and names that are bound (C11 6.7.2).
use Rattle.std.proofs.Common.{◌≡◌, ℕ, zero, suc, ◌≤◌, Bool, true, false, List, [], ◌∷◌, ◌++◌, length, Option, Some}
use Rattle.std.proofs.Common.{None, Ok, refl, sym, ap, subst, ◌∙◌, inl, inr, ◌⊎◌, ⊎_elim, arith, ℤ, pos}
use Rattle.std.specs.Prelude.{slice_get, map, not, nat_le, if◌then◌else◌, ◌+ℤ◌}
use Rattle.std.proofs.lemmas.Bool.{false≢true, not-true, leb-true}
use Rattle.std.proofs.lemmas.Option.{none-some, same_Some, slice_get_within}
use Rattle.ck_base.specs.declared.positions.Pos.{Pos}
use Rattle.ck_base.specs.Tokens.{Lexeme}
use Rattle.c_tree.specs.declared.syntax.RecordKind.{RecordKind}
use Rattle.c_tree.specs.declared.syntax.RecordKind.TheVariants.{Struct, Union}
use Rattle.c_tree.specs.declared.syntax.NodeKind.TheVariants as Kinds
use Rattle.c_tree.specs.Layout.{Extent, size_limit}
use Rattle.c_tree.specs.Syntax.{Syns, node, nil, more}
use Rattle.c_tree.specs.Types.{Ty, Tagged, int, bare}
use Rattle.c_tree.specs.Scopes.{Entity, Local, Enumerator, Tagging, Recorded, Enumerated, Scope, Part, TagState, State}
use Rattle.c_tree.specs.Scopes.{Doing, give, need, change, some_or, ◌>>=◌, ◌>>◌, find_in, find_tag, innermost}
use Rattle.c_tree.specs.Scopes.{outer_scopes, in_innermost, bind_name, bind_tag, changed_at, extent_size}
use Rattle.c_tree.specs.Readings.{Specified, Param, Prototype, Wrap, Point, Row, Gives, Derived, Reading}
use Rattle.c_tree.specs.Declarators.{Constant, constant, number_of, same_record, has_kind, kind_at, new_tag}
use Rattle.c_tree.specs.Declarators.{declare_tag, as_record, named_tag, is_begun, begin_tag, record_extent, completed}
use Rattle.c_tree.specs.Declarators.{complete_tag, all_members, filled_tag, record_specifier, in_int, is_new, enumerate}
use Rattle.c_tree.specs.Declarators.{enumerator, enumerators, new_enumeration, named_enumeration, enum_specifier}
use Rattle.c_tree.specs.Conversions.{Operand, operand_type}
use Rattle.c_tree.specs.Constants.{constant_of}
use Rattle.c_tree.specs.Expressions.{unevaluated, read_value}
use Rattle.c_tree.specs.TreeLayout.{tree_extent}
use Rattle.c_tree.specs.Programs.{tag_of, member_of_tag}
use Rattle.c_tree.specs.WellTyped.{holds}
use Rattle.typing_laws.proofs.Facts.{TypeOk, TagOk, EntityOk, AllNames, AllScopes, TagGrows, TagsGrow, OpenStay, Refers}
use Rattle.typing_laws.proofs.Facts.{Adds, none, one, Inv, Grows, Kept}
use Rattle.typing_laws.proofs.Growing.{when_all, type_kept, refers_self, refers_on, grows_self, grows_on, scopes_more}
use Rattle.typing_laws.proofs.Steps.{ok_is, given, needed, found, refused, first_then, needed_in, changed_from}
use Rattle.typing_laws.proofs.Steps.{changed_to}
use Rattle.typing_laws.proofs.Operators.{onward}
use Rattle.typing_laws.proofs.Places.{entity_kept, changed_here}
use Rattle.typing_laws.proofs.Evaluated.{ReadsExpression, read_ok, unevaluated_ok}
use Rattle.typing_laws.proofs.Extents.{record_more, AllParts, AllTags, part_kept, part_there, record_known, record_kept}
use Rattle.typing_laws.proofs.Extents.{tree_kept, tags_mapped, record_deep, tag_ok_kept}

-- ---- the parts of declarations

-- a parameter, once it is adjusted
pub record ParamOk (ts : List TagState) (p : Param) : Type 0 where
  pub type : TypeOk ts p.of

abbrev pub AllParams : List TagState → List Param → Type 0
AllParams ts [] = Unit {0}
AllParams ts (p ∷ ps) = ParamOk ts p × AllParams ts ps

-- what the scope of a prototype declares: its parameters and enumeration constants
abbrev pub ParamName : List Param → Entity → Type 0
ParamName ps (Local k t) = (p : Param) × (slice_get ps k ≡ Some p) × (p.of ≡ t)
ParamName ps (Enumerator z) = holds (in_int z)
ParamName ps e = ⊥

pub record PrototypeOk (ts : List TagState) (p : Prototype) : Type 0 where
  pub params : AllParams ts p.params
  pub scope : AllNames (ParamName p.params) p.scope.names

abbrev pub WrapOk : List TagState → Wrap → Type 0
WrapOk ts (Point q) = Unit {0}
WrapOk ts (Row n) = Unit {0}
WrapOk ts (Gives p) = PrototypeOk ts p

abbrev pub AllWraps : List TagState → List Wrap → Type 0
AllWraps ts [] = Unit {0}
AllWraps ts (w ∷ ws) = WrapOk ts w × AllWraps ts ws

-- a part of the syntax as a part of a declaration
pub record ReadsDeclared (r : Reading) : Type 0 where
  pub expression : ReadsExpression r
  pub specified : (alone : Bool) (s : State) → Inv false s → (x : Specified × State) → r.specified alone s ≡ Ok x →
      Kept false true s (λ q p. TypeOk q.tags p.of) x
  pub derived : (s : State) → Inv false s → (x : Derived × State) → r.derived s ≡ Ok x →
      Kept false true s (λ q d. AllWraps q.tags d.wraps) x
  pub prototype : (s : State) → Inv false s → (x : Prototype × State) → r.prototype s ≡ Ok x →
      Kept false true s (λ q p. PrototypeOk q.tags p) x
  pub parameter : (only : Bool) (s : State) → Inv false s → (x : Param × State) → r.parameter only s ≡ Ok x →
      Kept false true s (λ q p. p.nothing ≡ false → ParamOk q.tags p) x
  pub members : (ms : List Part) (s : State) → Inv false s → AllParts s.tags ms → (x : List Part × State) →
      r.members ms s ≡ Ok x → Kept false true s (λ q ns. AllParts q.tags ns) x
  pub enumerator : (z : ℤ) (s : State) → Inv false s → (x : ℤ × State) → r.enumerator z s ≡ Ok x →
      Kept false true s (λ q w. Unit {0}) x

abbrev pub AllDeclared : List Reading → Type 0
AllDeclared [] = Unit {0}
AllDeclared (r ∷ rs) = ReadsDeclared r × AllDeclared rs

-- ---- names that are bound

pub outer_bound : (f : Scope → Scope) (cs : List Scope) → outer_scopes (in_innermost f cs) ≡ outer_scopes cs
outer_bound f [] = refl
outer_bound f (c ∷ cs) = refl

pub deep_bound : (f : Scope → Scope) (cs : List Scope) → length (in_innermost f cs) ≡ length cs
deep_bound f [] = refl
deep_bound f (c ∷ cs) = refl

named_bound : (P : Entity → Type 0) (name : List ℕ) (e : Entity) (cs : List Scope) → P e → AllScopes P cs →
    AllScopes P (in_innermost (λ c. record c { names = record { name = name; is = e } ∷ c.names }) cs)
named_bound P name e [] h k = tt
named_bound P name e (c ∷ cs) h k = ((h, k.0), k.1)

enumerator_bound : (name : List ℕ) (z : ℤ) (cs : List Scope) → in_int z ≡ true →
    Adds (innermost cs).names (innermost (in_innermost
    (λ c. record c { names = record { name = name; is = Enumerator z } ∷ c.names }) cs)).names
enumerator_bound name z [] h = none
enumerator_bound name z (c ∷ cs) h = one name z h none

tag_bound : (f : Scope → Scope) → ((c : Scope) → (f c).names ≡ c.names) → (cs : List Scope) →
    Adds (innermost cs).names (innermost (in_innermost f cs)).names
tag_bound f h [] = none
tag_bound f h (c ∷ cs) = subst (Adds c.names) (sym (h c)) none

tags_bound : (P : Entity → Type 0) (name : List ℕ) (t : Tagging) (cs : List Scope) → AllScopes P cs →
    AllScopes P (in_innermost (λ c. record c { tags = record { name = name; is = t } ∷ c.tags }) cs)
tags_bound P name t [] h = tt
tags_bound P name t (c ∷ cs) h = h

pub tag_named : (m e : Bool) (s : State) (name : List ℕ) (t : Tagging) → Inv m s →
    Inv m (bind_tag name t s) × Grows e s (bind_tag name t s)
tag_named m e s name t i = (
  record {
    tags = i.tags;
    names = tags_bound (EntityOk m s) name t s.scopes i.names;
    statics = i.statics;
    routines = i.routines;
    locals = i.locals;
  },
  record {
    refers = record {
      tags = (refers_self s).tags;
      statics = (refers_self s).statics;
      routines = (refers_self s).routines;
      texts = λ k x q. q;
      locals = (refers_self s).locals;
    };
    opened = λ k t e b. e;
    outer = outer_bound _ s.scopes;
    deep = deep_bound _ s.scopes;
    names = when_all e _ (tag_bound (λ c. record c { tags = record { name = name; is = t } ∷ c.tags })
        (λ c. refl) s.scopes);
    count = when_all e _ refl;
    still = when_all e _ (record { locals = refl; statics = refl; routines = refl; pending = refl });
    statics = omega arith;
    routines = omega arith;
  },
)

-- a name that is bound. Behind an expression it is that of an enumeration constant
pub name_bound : (m : Bool) (s : State) (name : List ℕ) (x : Entity) → EntityOk m s x → Inv m s →
    Inv m (bind_name name x s)
name_bound m s name x h i =
    record {
      tags = i.tags;
      names = named_bound (EntityOk m s) name x s.scopes h i.names;
      statics = i.statics;
      routines = i.routines;
      locals = i.locals;
    }

pub name_grows : (s : State) (name : List ℕ) (x : Entity) → Grows false s (bind_name name x s)
name_grows s name x = record {
  refers = record {
    tags = (refers_self s).tags;
    statics = (refers_self s).statics;
    routines = (refers_self s).routines;
    texts = λ k x q. q;
    locals = (refers_self s).locals;
  };
  opened = λ k t e b. e;
  outer = outer_bound _ s.scopes;
  deep = deep_bound _ s.scopes;
  names = tt;
  count = tt;
  still = tt;
  statics = omega arith;
  routines = omega arith;
}

enumerator_grows : (s : State) (name : List ℕ) (z : ℤ) → in_int z ≡ true →
    Grows true s (bind_name name (Enumerator z) s)
enumerator_grows s name z h = record {
  refers = record {
    tags = (refers_self s).tags;
    statics = (refers_self s).statics;
    routines = (refers_self s).routines;
    texts = λ k x q. q;
    locals = (refers_self s).locals;
  };
  opened = λ k t e b. e;
  outer = outer_bound _ s.scopes;
  deep = deep_bound _ s.scopes;
  names = enumerator_bound name z s.scopes h;
  count = refl;
  still = record { locals = refl; statics = refl; routines = refl; pending = refl };
  statics = omega arith;
  routines = omega arith;
}

-- ---- tags that are declared, opened and completed

-- a state with other tags
tags_grown : (s : State) (us : List TagState) → TagsGrow s.tags us → AllTags us → Inv false s →
    Inv false (record s { tags = us })
tags_grown s us g h i =
    let r : State = record s { tags = us } in
    let f : Refers s r = record {
      tags = g;
      statics = (refers_self s).statics;
      routines = (refers_self s).routines;
      texts = λ k x q. q;
      locals = (refers_self s).locals;
    } in
    record {
      tags = h;
      names = scopes_more (EntityOk false s) (EntityOk false r)
          (entity_kept false s r f (omega arith) (omega arith)) s.scopes i.names;
      statics = λ k x e. type_kept s.tags us g x.of (i.statics k x e);
      routines = λ k x e. let q = i.routines k x e in (type_kept s.tags us g x.of q.0, q.1);
      locals = λ k x e. type_kept s.tags us g x.of (i.locals k x e);
    }

tags_step : (s : State) (us : List TagState) → TagsGrow s.tags us → OpenStay s.tags us →
    Grows true s (record s { tags = us })
tags_step s us g o = record {
  refers = record {
    tags = g;
    statics = (refers_self s).statics;
    routines = (refers_self s).routines;
    texts = λ k x q. q;
    locals = (refers_self s).locals;
  };
  opened = o;
  outer = refl;
  deep = refl;
  names = none;
  count = refl;
  still = record { locals = refl; statics = refl; routines = refl; pending = refl };
  statics = omega arith;
  routines = omega arith;
}

tags_step_refers : (s : State) (us : List TagState) → TagsGrow s.tags us → Refers s (record s { tags = us })
tags_step_refers s us g =
    record {
      tags = g;
      statics = (refers_self s).statics;
      routines = (refers_self s).routines;
      texts = λ k x q. q;
      locals = (refers_self s).locals;
    }

tag_stays : (t : TagState) → TagGrows t t
tag_stays t = record { kind = refl; known = λ x e. refl; parts = λ ms e. refl }

pub there_in : {A : Type 0} (xs ys : List A) (k : ℕ) (x : A) → slice_get xs k ≡ Some x → slice_get (xs ++ ys) k ≡ Some x
there_in [] ys k x e = absurd cc
there_in (y ∷ xs) ys zero x e = e
there_in (y ∷ xs) ys (suc k) x e = there_in xs ys k x e

pub last_of : {A : Type 0} (xs : List A) (y : A) → slice_get (xs ++ y ∷ []) (length xs) ≡ Some y
last_of [] y = refl
last_of (x ∷ xs) y = last_of xs y

-- an item of a list with one more
pub there_from : {A : Type 0} (xs : List A) (y : A) (k : ℕ) (x : A) → slice_get (xs ++ y ∷ []) k ≡ Some x →
    (slice_get xs k ≡ Some x) ⊎ ((k ≡ length xs) × (x ≡ y))
there_from [] y zero x e = inr (refl, sym (same_Some y x e))
there_from [] y (suc k) x e = absurd cc
there_from (z ∷ xs) y zero x e = inl e
there_from (z ∷ xs) y (suc k) x e = ⊎_elim (λ a. inl a) (λ b. inr (ap suc b.0, b.1)) (there_from xs y k x e)

abbrev fresh : RecordKind → TagState
fresh k = record { kind = k; begun = false; members = None; extent = None }

-- a tag of a kind that is there
abbrev IsTag : RecordKind → State → ℕ → Type 0
IsTag k s n = (t : TagState) × (slice_get s.tags n ≡ Some t) × (t.kind ≡ k)

fresh_ok : (ts : List TagState) (n : ℕ) (k : RecordKind) → TagOk ts n (fresh k)
fresh_ok ts n k = record {
  unknown = λ e. refl;
  known = λ ms e. absurd (none-some ms e);
  parts = λ ms k m e i. absurd (none-some ms e);
  laid = λ x e. absurd (none-some x e);
}

new_tag_ok : (k : RecordKind) (s : State) → Inv false s → (x : ℕ × State) → new_tag k s ≡ Ok x →
    Kept false true s (λ r n. IsTag k r n) x
new_tag_ok k s i x e =
    let us = s.tags ++ fresh k ∷ [] in
    let g : TagsGrow s.tags us = λ j t q. (t, there_in s.tags (fresh k ∷ []) j t q, tag_stays t) in
    let all : AllTags us = λ j t q. ⊎_elim (λ a. tag_ok_kept s.tags us g j t (i.tags j t a))
    (λ b. subst (TagOk us j) (sym b.1) (fresh_ok us j k)) (there_from s.tags (fresh k) j t q) in
    given (Kept false true s (λ r n. IsTag k r n)) (length s.tags) (record s { tags = us }) x e
    (record {
      inv = tags_grown s us g all i;
      grown = tags_step s us g (λ j t q b. there_in s.tags (fresh k ∷ []) j t q);
      post = (fresh k, last_of s.tags (fresh k), refl);
    })

declare_tag_ok : (k : RecordKind) (t : Lexeme) (s : State) → Inv false s → (x : ℕ × State) → declare_tag k t s ≡ Ok x →
    Kept false true s (λ r n. IsTag k r n) x
declare_tag_ok k t s i x e =
    let f = first_then (new_tag k s) (λ n r. Ok (n, bind_tag t.text (Recorded n) r)) x e in
    let l = new_tag_ok k s i f.0 f.1 in
    let b = tag_named false true f.0.1 t.text (Recorded f.0.0) l.inv in
    onward false true s f.0 x l (given (Kept false true f.0.1 (λ r n. IsTag k r n)) f.0.0
    (bind_tag t.text (Recorded f.0.0) f.0.1) x f.2
    (record { inv = b.0; grown = b.1; post = l.post }))

kinds_same : (j k : RecordKind) → same_record j k ≡ true → j ≡ k
kinds_same Struct Struct e = refl
kinds_same Struct Union e = absurd (false≢true e)
kinds_same Union Struct e = absurd (false≢true e)
kinds_same Union Union e = refl

kind_there : (o : Option TagState) (k : RecordKind) → has_kind o k ≡ true → (t : TagState) × (o ≡ Some t) × (t.kind ≡ k)
kind_there None k e = absurd (false≢true e)
kind_there (Some t) k e = (t, refl, kinds_same t.kind k e)

as_record_ok : (k : RecordKind) (t : Lexeme) (o : Option Tagging) (s : State) → Inv false s → (x : ℕ × State) →
    as_record k t o s ≡ Ok x → Kept false true s (λ r n. IsTag k r n) x
as_record_ok k t None s i x e = declare_tag_ok k t s i x e
as_record_ok k t (Some Enumerated) s i x e = refused _ x e
as_record_ok k t (Some (Recorded n)) s i x e =
    let f = needed (kind_at s n k) 133 t.pos (give n) s x e in
    given (Kept false true s (λ r n. IsTag k r n)) n s x f.1
    (record { inv = i; grown = grows_self true s; post = kind_there (slice_get s.tags n) k f.0 })

named_tag_ok : (here : Bool) (k : RecordKind) (t : Lexeme) (s : State) → Inv false s → (x : ℕ × State) →
    named_tag here k t s ≡ Ok x → Kept false true s (λ r n. IsTag k r n) x
named_tag_ok here k t s i x e =
    as_record_ok k t (if here then find_in (innermost s.scopes).tags t.text else find_tag s.scopes t.text) s i x e

-- ---- braces

abbrev open_tag : TagState → TagState
open_tag t = record t { begun = true }

-- a tag that is not opened has no members
not_open : (ts : List TagState) (n : ℕ) (t : TagState) → TagOk ts n t → t.begun ≡ false → t.members ≡ None
not_open ts n t h b = go t.members refl
  where
    go : (o : Option (List Part)) → t.members ≡ o → o ≡ None
    go None e = refl
    go (Some ms) e = absurd (false≢true (sym b ∙ (h.known ms e).0))

begun_at : (ts : List TagState) (n : ℕ) (t : TagState) → slice_get ts n ≡ Some t →
    not (is_begun (slice_get ts n)) ≡ true → t.begun ≡ false
begun_at ts n t e b = not-true t.begun (ap (λ o. not (is_begun o)) (sym e) ∙ b)

record Opened (k : RecordKind) (s r : State) (n : ℕ) : Type 0 where
  before : TagState
  there : slice_get s.tags n ≡ Some before
  closed : before.begun ≡ false
  kind : before.kind ≡ k
  after : slice_get r.tags n ≡ Some (open_tag before)
  empty : before.members ≡ None

begin_tag_ok : (k : RecordKind) (n : ℕ) (p : Pos) (s : State) → Inv false s → IsTag k s n → (x : Unit × State) →
    begin_tag n p s ≡ Ok x → Kept false true s (λ r _. Opened k s r n) x
begin_tag_ok k n p s i t x e =
    let us = changed_at open_tag s.tags n in
    let f = needed (not (is_begun (slice_get s.tags n))) 131 p
    (change (λ s. record s { tags = changed_at open_tag s.tags n })) s x e in
    let b = begun_at s.tags n t.0 t.1 f.0 in
    let none_there = not_open s.tags n t.0 (i.tags n t.0 t.1) b in
    let same_tag : (j : ℕ) (u : TagState) → slice_get s.tags j ≡ Some u → j ≡ n → u ≡ t.0 =
    λ j u q w. same_Some u t.0 (sym q ∙ ap (slice_get s.tags) w ∙ t.1) in
    let closed : (u : TagState) → u ≡ t.0 → u.members ≡ None = λ u w. ap (λ (v : TagState). v.members) w ∙ none_there in
    let g : TagsGrow s.tags us = λ j u q. let y = changed_to open_tag s.tags n j u q in (
      y.0,
      y.1,
      ⊎_elim (λ a. subst (TagGrows u) (sym a) (tag_stays u))
          (λ c. subst (TagGrows u) (sym c.1) (opening j u q (closed u (same_tag j u q c.0))
          ((i.tags j u q).unknown (closed u (same_tag j u q c.0))))) y.2,
    ) in
    let o : OpenStay s.tags us = λ j u q w. let y = changed_to open_tag s.tags n j u q in
    ⊎_elim (λ a. y.1 ∙ ap Some a) (λ c. absurd
    (false≢true (sym (ap (λ (v : TagState). v.begun) (same_tag j u q c.0) ∙ b) ∙ w))) y.2 in
    let all : AllTags us = λ j u q. let y = changed_from open_tag s.tags n j u q in
    let h = tag_ok_kept s.tags us g j y.0 (i.tags j y.0 y.1) in
    ⊎_elim (λ a. subst (TagOk us j) (sym a) h) (λ c. subst (TagOk us j) (sym c.1) (opened_ok us j y.0 h)) y.2 in
    given (Kept false true s (λ r _. Opened k s r n)) tt (record s { tags = us }) x f.1
    (record {
      inv = tags_grown s us g all i;
      grown = tags_step s us g o;
      post = record {
        before = t.0;
        there = t.1;
        closed = b;
        kind = t.2;
        after = changed_here open_tag s.tags n t.0 t.1;
        empty = none_there;
      };
    })
  where
    opening : (j : ℕ) (u : TagState) → slice_get s.tags j ≡ Some u → u.members ≡ None → u.extent ≡ None →
        TagGrows u (open_tag u)
    opening j u q a b = record {
      kind = refl;
      known = λ x e. absurd (none-some x (sym b ∙ e));
      parts = λ ms e. absurd (none-some ms (sym a ∙ e));
    }

    opened_ok : (us : List TagState) (j : ℕ) (u : TagState) → TagOk us j u → TagOk us j (open_tag u)
    opened_ok us j u h = record {
      unknown = h.unknown;
      known = λ ms e. let k = h.known ms e in
          (refl, k.1, k.2, k.3, k.4);
      parts = h.parts;
      laid = h.laid;
    }

-- a tag that gets its members
completing : (ts : List TagState) (k : RecordKind) (n : ℕ) (ms : List Part) (u : TagState) → slice_get ts n ≡ Some u →
    u.members ≡ None → AllTags ts → TagsGrow ts (changed_at (completed ts k ms) ts n)
completing ts k n ms u e m h j v q =
    let y = changed_to (completed ts k ms) ts n j v q in (
      y.0,
      y.1,
      ⊎_elim (λ a. subst (TagGrows v) (sym a) (tag_stays v)) (λ c.
          let same : v ≡ u = same_Some v u (sym q ∙ ap (slice_get ts) c.0 ∙ e) in
          let a : v.members ≡ None = ap (λ (w : TagState). w.members) same ∙ m in
          let b : v.extent ≡ None = (h j v q).unknown a in
          subst (TagGrows v) (sym c.1) (record {
            kind = refl;
            known = λ x i. absurd (none-some x (sym b ∙ i));
            parts = λ ns i. absurd (none-some ns (sym a ∙ i));
          })) y.2,
    )

complete_tag_ok : (ts : List TagState) (k : RecordKind) (n : ℕ) (ms : List Part) (u : TagState) (cs : List TagState) →
    TagsGrow ts cs → AllTags ts → slice_get cs n ≡ Some (completed ts k ms u) → u.begun ≡ true → u.kind ≡ k →
    AllParts ts ms → extent_size (record_extent ts k ms) ≤ size_limit →
    TagOk cs n (completed ts k ms u)
unfolding tree_extent
complete_tag_ok ts k n ms u cs g h here b i all le =
    let y = record_known ts k ms all in
    record {
      unknown = λ e. absurd (none-some ms (sym e));
      known = λ ns e. subst (λ ns. (u.begun ≡ true) × (x : Extent) × (record_extent ts k ms ≡ Some x) ×
          (record_extent cs u.kind ns ≡ Some x) × (x.size ≤ size_limit)) (same_Some ms ns e) (
            b,
            y.0,
            y.1,
            subst (λ j. record_extent cs j ms ≡ Some y.0) (sym i) (record_kept ts cs g k ms y.0 y.1),
            subst (λ o. extent_size o ≤ size_limit) y.1 le,
          );
      parts = λ ns j m e q. part_kept ts cs g m (part_there ts ns j m (subst (AllParts ts) (same_Some ms ns e) all) q);
      laid = λ x e.
          let d = record_deep ts h k ms x e in
          let more = record_more k (tree_extent d.0 (map tag_of ts)) (tree_extent d.0 (map tag_of cs))
          (λ t z q. tree_kept d.0 ts cs g t z q) (map member_of_tag ms) x d.1 in
          (suc d.0, rw (tags_mapped cs n (completed ts k ms u) here, i) more);
    }

all_members_ok : (rs : List Reading) (ms : List Part) (s : State) → AllDeclared rs → Inv false s → AllParts s.tags ms →
    (x : List Part × State) → all_members rs ms s ≡ Ok x → Kept false true s (λ q ns. AllParts q.tags ns) x
all_members_ok [] ms s h i p x e =
    given (Kept false true s (λ q ns. AllParts q.tags ns)) ms s x e
    (record { inv = i; grown = grows_self true s; post = p })
all_members_ok (r ∷ rs) ms s h i p x e =
    let f = first_then (r.members ms s) (λ ns. all_members rs ns) x e in
    let l = h.0.members ms s i p f.0 f.1 in
    onward false true s f.0 x l (all_members_ok rs f.0.0 f.0.1 h.1 l.inv l.post x f.2)

tag_filled : (k : RecordKind) (n : ℕ) (s a r : State) (ms : List Part) → Opened k s a n → Grows true a r →
    Grows true s r → Inv false r → AllParts r.tags ms → extent_size (record_extent r.tags k ms) ≤ size_limit →
    Inv false (record r { tags = changed_at (completed r.tags k ms) r.tags n }) ×
    Grows true s (record r { tags = changed_at (completed r.tags k ms) r.tags n })
tag_filled k n s a r ms o g w i all le =
    let ts = r.tags in
    let u = open_tag o.before in
    let cs = changed_at (completed ts k ms) ts n in
    let there : slice_get ts n ≡ Some u = g.opened n u o.after refl in
    let grow = completing ts k n ms u there o.empty i.tags in
    let here : slice_get cs n ≡ Some (completed ts k ms u) = changed_here (completed ts k ms) ts n u there in
    let done : TagOk cs n (completed ts k ms u) = complete_tag_ok ts k n ms u cs grow i.tags here refl o.kind all le in
    let tags : AllTags cs = λ j t q. let y = changed_from (completed ts k ms) ts n j t q in
    ⊎_elim (λ c. subst (TagOk cs j) (sym c) (tag_ok_kept ts cs grow j y.0 (i.tags j y.0 y.1)))
    (λ c. subst (λ m. TagOk cs m t) (sym c.0)
    (subst (TagOk cs n) (same_Some (completed ts k ms u) t (sym here ∙ ap (slice_get cs) (sym c.0) ∙ q)) done))
    y.2 in
    let f = tags_grown r cs grow tags i in
    let b = tags_step_refers r cs grow in (
      f,
      record {
        refers = refers_on s r (record r { tags = cs }) w.refers b;
        opened = λ j t q d.
            let y = changed_to (completed ts k ms) ts n j t (w.opened j t q d) in
            ⊎_elim (λ c. y.1 ∙ ap Some c) (λ c. absurd
            (false≢true (sym o.closed
            ∙ ap (λ (v : TagState). v.begun) (same_Some o.before t
            (sym o.there ∙ ap (slice_get s.tags) (sym c.0) ∙ q)) ∙ d))) y.2;
        outer = w.outer;
        deep = w.deep;
        names = w.names;
        count = w.count;
        still = record {
          locals = w.still.locals;
          statics = w.still.statics;
          routines = w.still.routines;
          pending = w.still.pending;
        };
        statics = w.statics;
        routines = w.routines;
      },
    )

filled_tag_ok : (k : RecordKind) (n : ℕ) (rs : List Reading) (keyword : Lexeme) (at : Pos) (s : State) →
    AllDeclared rs → Inv false s → IsTag k s n → (x : Ty × State) → filled_tag k n rs keyword at s ≡ Ok x →
    Kept false true s (λ q t. TypeOk q.tags t) x
filled_tag_ok k n rs keyword at s h i t x e =
    let f = first_then ((begin_tag n at >> all_members rs []) s)
    (λ ms. complete_tag k n ms keyword.pos >> give (Tagged n)) x e in
    let b = first_then (begin_tag n at s) (λ _. all_members rs []) f.0 f.1 in
    let l = begin_tag_ok k n at s i t b.0 b.1 in
    let w = all_members_ok rs [] b.0.1 h l.inv tt f.0 b.2 in
    let both = onward false true s b.0 f.0 l w in
    let r = f.0.1 in let ms = f.0.0 in
    let c = first_then (complete_tag k n ms keyword.pos r) (λ _. give (Tagged n)) x f.2 in
    let v = needed (nat_le (extent_size (record_extent r.tags k ms)) size_limit) 140 keyword.pos
    (change (λ q. record q { tags = changed_at (completed q.tags k ms) q.tags n })) r c.0 c.1 in
    let z = tag_filled k n s b.0.1 r ms l.post w.grown both.grown w.inv w.post (leb-true _ _ v.0) in
    let q : State = record r { tags = changed_at (completed r.tags k ms) r.tags n } in
    given (Kept false true s (λ q t. TypeOk q.tags t)) (Tagged n) c.0.1 x c.2
    (subst (λ (y : Unit × State). Kept false true s (λ q t. TypeOk q.tags t) (Tagged n, y.1)) (ok_is (tt, q) c.0 v.1)
    (record { inv = z.0; grown = z.1; post = slice_get_within q.tags n _ (z.1.refers.tags n t.0 t.1).1 }))

-- 6.7.2.1
pub record_specifier_ok : (k : RecordKind) (alone : Bool) (t : Lexeme) (xs : Syns) (rs : List Reading) (s : State) →
    AllDeclared rs → Inv false s → (x : Ty × State) → record_specifier k alone t xs rs s ≡ Ok x →
    Kept false true s (λ q t. TypeOk q.tags t) x
unfolding record_specifier
record_specifier_ok k alone t (more (node Kinds.Tag n ys) nil) rs s h i x e =
    let f = first_then (named_tag alone k n s) (λ m. give (Tagged m)) x e in
    let l = named_tag_ok alone k n s i f.0 f.1 in
    onward false true s f.0 x l (given (Kept false true f.0.1 (λ q t. TypeOk q.tags t)) (Tagged f.0.0) f.0.1 x f.2
    (record { inv = l.inv; grown = grows_self true f.0.1; post = slice_get_within f.0.1.tags f.0.0 _ l.post.1 }))
record_specifier_ok k alone t (more (node Kinds.Tag n ys) (more y zs)) (r ∷ rs) s h i x e =
    let f = first_then (named_tag true k n s) (λ m. filled_tag k m rs t n.pos) x e in
    let l = named_tag_ok true k n s i f.0 f.1 in
    onward false true s f.0 x l (filled_tag_ok k f.0.0 rs t n.pos f.0.1 h.1 l.inv l.post x f.2)
record_specifier_ok k alone t xs rs s h i x e =
    let f = first_then (new_tag k s) (λ m. filled_tag k m rs t t.pos) x e in
    let l = new_tag_ok k s i f.0 f.1 in
    onward false true s f.0 x l (filled_tag_ok k f.0.0 rs t t.pos f.0.1 h l.inv l.post x f.2)

-- ---- enumerations (6.7.2.2)

pub constant_ok : (r : Reading) (s : State) → ReadsExpression r → Inv false s → (x : Constant × State) →
    constant r s ≡ Ok x → Kept false true s (λ q c. Unit {0}) x
constant_ok r s h i x e =
    let go : Operand → Doing Constant =
    λ y. some_or (constant_of y.is) 134 y.first
    >>= λ v. give (record { number = number_of (bare (operand_type y)) v; first = y.first }) in
    let f = first_then (unevaluated (read_value r) s) go x e in
    let l = unevaluated_ok false s i (read_value r) (λ ts a. Unit {0})
    (λ y g. let k = read_ok false s i r h y g in record { inv = k.inv; grown = k.grown; post = tt }) f.0 f.1 in
    let v = found (constant_of f.0.0.is) 134 f.0.0.first
    (λ v. give (record { number = number_of (bare (operand_type f.0.0)) v; first = f.0.0.first })) f.0.1 x f.2
    in
    onward false true s f.0 x l (given (Kept false true f.0.1 (λ q c. Unit {0})) _ f.0.1 x v.2
    (record { inv = l.inv; grown = grows_self true f.0.1; post = tt }))

enumerate_ok : (t : Lexeme) (z : ℤ) (p : Pos) (s : State) → Inv false s → (x : ℤ × State) → enumerate t z p s ≡ Ok x →
    Kept false true s (λ q w. Unit {0}) x
enumerate_ok t z p s i x e =
    let bind : Doing Unit = change (bind_name t.text (Enumerator z)) in
    let f = first_then ((need (is_new s t.text) 131 t.pos >> need (in_int z) 134 p >> bind) s)
    (λ _. give (z +ℤ pos 1)) x e in
    let a = needed_in (is_new s t.text) 131 t.pos (need (in_int z) 134 p) (λ _. bind) s f.0 f.1 in
    let b = needed (in_int z) 134 p bind s f.0 a.1 in
    given (Kept false true s (λ q w. Unit {0})) (z +ℤ pos 1) f.0.1 x f.2
    (subst (λ (y : Unit × State). Kept false true s (λ q w. Unit {0}) (z +ℤ pos 1, y.1))
    (ok_is (tt, bind_name t.text (Enumerator z) s) f.0 b.1)
    (record {
      inv = name_bound false s t.text (Enumerator z) b.0 i;
      grown = enumerator_grows s t.text z b.0;
      post = tt;
    }))

pub enumerator_ok : (t : Lexeme) (rs : List Reading) (next : ℤ) (s : State) → AllDeclared rs → Inv false s →
    (x : ℤ × State) → enumerator t rs next s ≡ Ok x → Kept false true s (λ q w. Unit {0}) x
unfolding enumerator
enumerator_ok t (r ∷ rs) next s h i x e =
    let f = first_then (constant r s) (λ c. enumerate t c.number c.first) x e in
    let l = constant_ok r s h.0.expression i f.0 f.1 in
    onward false true s f.0 x l (enumerate_ok t f.0.0.number f.0.0.first f.0.1 l.inv x f.2)
enumerator_ok t [] next s h i x e = enumerate_ok t next t.pos s i x e

enumerators_ok : (rs : List Reading) (next : ℤ) (s : State) → AllDeclared rs → Inv false s → (x : Unit × State) →
    enumerators rs next s ≡ Ok x → Kept false true s (λ q w. Unit {0}) x
enumerators_ok [] next s h i x e =
    given (Kept false true s (λ q w. Unit {0})) tt s x e (record { inv = i; grown = grows_self true s; post = tt })
enumerators_ok (r ∷ rs) next s h i x e =
    let f = first_then (r.enumerator next s) (λ z. enumerators rs z) x e in
    let l = h.0.enumerator next s i f.0 f.1 in
    onward false true s f.0 x l (enumerators_ok rs f.0.0 f.0.1 h.1 l.inv x f.2)

enumerated_int : (rs : List Reading) (s : State) → AllDeclared rs → Inv false s → (x : Ty × State) →
    (enumerators rs (pos 0) >> give int) s ≡ Ok x → Kept false true s (λ q t. TypeOk q.tags t) x
enumerated_int rs s h i x e =
    let f = first_then (enumerators rs (pos 0) s) (λ _. give int) x e in
    let l = enumerators_ok rs (pos 0) s h i f.0 f.1 in
    onward false true s f.0 x l (given (Kept false true f.0.1 (λ q t. TypeOk q.tags t)) int f.0.1 x f.2
    (record { inv = l.inv; grown = grows_self true f.0.1; post = tt }))

named_enumeration_ok : (t : Lexeme) (o : Option Tagging) (s : State) → Inv false s → (x : Ty × State) →
    (named_enumeration t o >> give int) s ≡ Ok x → Kept false true s (λ q t. TypeOk q.tags t) x
named_enumeration_ok t None s i x e = refused _ x e
named_enumeration_ok t (Some Enumerated) s i x e =
    given (Kept false true s (λ q t. TypeOk q.tags t)) int s x e
    (record { inv = i; grown = grows_self true s; post = tt })
named_enumeration_ok t (Some (Recorded n)) s i x e = refused _ x e

new_enumeration_ok : (t : Lexeme) (o : Option Tagging) (rs : List Reading) (s : State) → AllDeclared rs → Inv false s →
    (x : Ty × State) → (new_enumeration t o >> enumerators rs (pos 0) >> give int) s ≡ Ok x →
    Kept false true s (λ q t. TypeOk q.tags t) x
new_enumeration_ok t None rs s h i x e =
    let b = tag_named false true s t.text Enumerated i in
    let r = bind_tag t.text Enumerated s in
    let l = enumerated_int rs r h b.0 x e in
    record { inv = l.inv; grown = grows_on true s r x.1 b.1 l.grown; post = l.post }
new_enumeration_ok t (Some Enumerated) rs s h i x e = refused _ x e
new_enumeration_ok t (Some (Recorded n)) rs s h i x e = refused _ x e

pub enum_specifier_ok : (xs : Syns) (rs : List Reading) (s : State) → AllDeclared rs → Inv false s → (x : Ty × State) →
    enum_specifier xs rs s ≡ Ok x → Kept false true s (λ q t. TypeOk q.tags t) x
unfolding enum_specifier
enum_specifier_ok (more (node Kinds.Tag n ys) nil) rs s h i x e =
    named_enumeration_ok n (find_tag s.scopes n.text) s i x e
enum_specifier_ok (more (node Kinds.Tag n ys) (more y zs)) (r ∷ rs) s h i x e =
    new_enumeration_ok n (find_in (innermost s.scopes).tags n.text) rs s h.1 i x e
enum_specifier_ok xs rs s h i x e = enumerated_int rs s h i x e

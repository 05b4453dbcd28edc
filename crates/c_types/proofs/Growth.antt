-- What the scopes and the program stand for, as types are added.
use Rattle.std.proofs.Common.{◌≡◌, ℕ, zero, suc, ◌<◌, ◌≤◌, List, [], ◌∷◌, ◌++◌, length, map, Option, Some, None, refl}
use Rattle.std.proofs.Common.{sym, ap, subst, ◌∙◌, arith}
use Rattle.std.specs.Prelude.{slice_get, option_map, reverse}
use Rattle.std.proofs.lemmas.Option.{slice_get_within}
use Rattle.ck_base.specs.declared.positions.Pos.{Pos}
use Rattle.ck_base.specs.declared.positions.Span.{Span}
use Rattle.ck_base.specs.Tokens.{Lexeme}
use Rattle.c_tree.specs.declared.typed.CType.{CType}
use Rattle.c_tree.specs.declared.typed.CType.TheVariants as ctypes
use Rattle.c_tree.specs.declared.typed.Member.{Member}
use Rattle.c_tree.specs.declared.typed.Typed.{Typed}
use Rattle.c_tree.specs.Types.{Ty, Tagged}
use Rattle.c_tree.specs.Views.{types_of}
use Rattle.c_tree.specs.Scopes as meant
use Rattle.c_tree.specs.Scopes.{Part, State, TagState, StaticState, RoutineState, LocalState, find_in}
use Rattle.c_types.specs.declared.entries.Entity.{Entity}
use Rattle.c_types.specs.declared.entries.Entity.TheVariants.{Local, Static, Routine, Alias, Enumerator, Library}
use Rattle.c_types.specs.declared.scopes.Scope.{Scope}
use Rattle.c_types.specs.declared.scopes.TagInfo.{TagInfo}
use Rattle.c_types.specs.declared.scopes.Scopes.{Scopes}
use Rattle.c_interner.specs.declared.numbers.Numbers.{Numbers}
use Rattle.c_interner.specs.Numbers.{AddsTypes}
use Rattle.c_types.specs.Stands.{Stands, AreTagged, AreOfKinds, ShowsMembers, Seen, local, static, routine, alias}
use Rattle.c_types.specs.Stands.{enumerator, library, entity_kept}
use Rattle.c_types.specs.Stands.{entity_seen, ShowsScope, ShowScopes, name_in, SeenTag, part_seen, member_kept}
use Rattle.c_types.specs.Stands.{members_kept, tag_seen, tag_kept, Declared, declared_as, declared_at, static_seen}
use Rattle.c_types.specs.Stands.{global_kept, routine_seen, fun_kept, local_seen, var_kept, named}
use Rattle.c_interner.proofs.Growing.{length-types_of, types_longer}
use Rattle.std.specs.Global.{Vec}
use Rattle.c_types.proofs.Plain.{slice_get-front, added_tagged}

-- ---- lists that are longer at the end

pub slice_get-longer : {A : Type 0} (xs ys : List A) (k : ℕ) (x : A) → slice_get xs k ≡ Some x →
    slice_get (xs ++ ys) k ≡ Some x
slice_get-longer [] ys k x e = absurd cc
slice_get-longer (a ∷ xs) ys zero x e = e
slice_get-longer (a ∷ xs) ys (suc k) x e = slice_get-longer xs ys k x e

-- what is seen alike in each item is so in the lists
pub map_more : {A B C : Type 0} (f g : A → C) (h : B → C) (xs : List A) (ys : List B) →
    ((a : A) (b : B) → f a ≡ h b → g a ≡ h b) → map f xs ≡ map h ys → map g xs ≡ map h ys
map_more f g h [] [] k e = refl
map_more f g h [] (b ∷ ys) k e = absurd cc
map_more f g h (a ∷ xs) [] k e = absurd cc
map_more f g h (a ∷ xs) (b ∷ ys) k e =
    let i : f a ≡ h b = cc in
    let j : map f xs ≡ map h ys = cc in
    let m = k a b i in
    let n = map_more f g h xs ys k j in
    cc

-- ---- entities

abbrev IsThere : {A : Type 0} → Option A → Type 0
IsThere None = ⊥
IsThere (Some a) = Unit {0}

abbrev IsWhole : Seen → Type 0
IsWhole (local k t) = IsThere t
IsWhole (static k) = Unit {0}
IsWhole (routine k) = Unit {0}
IsWhole (alias t) = IsThere t
IsWhole (enumerator z) = Unit {0}
IsWhole (library k None) = Unit {0}
IsWhole (library k (Some t)) = IsThere t

seen_whole : (e : meant.Entity) → IsWhole (entity_seen e)
seen_whole (meant.Local k t) = tt
seen_whole (meant.Static k) = tt
seen_whole (meant.Routine k) = tt
seen_whole (meant.Alias t) = tt
seen_whole (meant.Enumerator z) = tt
seen_whole (meant.Library k None) = tt
seen_whole (meant.Library k (Some t)) = tt

named_same : (ts more : List Ty) (k : ℕ) → IsThere (named ts k) → named (ts ++ more) k ≡ named ts k
named_same [] more k h = absurd h
named_same (t ∷ ts) more zero h = refl
named_same (t ∷ ts) more (suc k) h = named_same ts more k h

whole_same : (ts more : List Ty) (e : Entity) → IsWhole (entity_kept ts e) →
    entity_kept (ts ++ more) e ≡ entity_kept ts e
whole_same ts more (Local k t) h = ap (local k) (named_same ts more t h)
whole_same ts more (Static k) h = refl
whole_same ts more (Routine k) h = refl
whole_same ts more (Alias t) h = ap alias (named_same ts more t h)
whole_same ts more (Enumerator z) h = refl
whole_same ts more (Library k None) h = refl
whole_same ts more (Library k (Some t)) h = ap (λ o. library k (Some o)) (named_same ts more t h)

pub entity_more : (ts more : List Ty) (e : Entity) (x : meant.Entity) → entity_kept ts e ≡ entity_seen x →
    entity_kept (ts ++ more) e ≡ entity_seen x
entity_more ts more e x h = whole_same ts more e (subst IsWhole (sym h) (seen_whole x)) ∙ h

option_more : (ts more : List Ty) (o : Option Entity) (q : Option meant.Entity) →
    option_map (entity_kept ts) o ≡ option_map entity_seen q →
    option_map (entity_kept (ts ++ more)) o ≡ option_map entity_seen q
option_more ts more None None h = refl
option_more ts more None (Some x) h = absurd cc
option_more ts more (Some e) None h = absurd cc
option_more ts more (Some e) (Some x) h =
    let i : entity_kept ts e ≡ entity_seen x = cc in ap (λ y. Some y) (entity_more ts more e x i)

pub scope_more : (ts more : List Ty) (k n : ℕ) (c : Scope) (m : meant.Scope) → k ≤ n → ShowsScope ts k c m →
    ShowsScope (ts ++ more) n c m
scope_more ts more k n c m le h = record {
  names = λ x. option_more ts more (name_in c x) (find_in m.names x) (h.names x);
  tags = h.tags;
  there = λ x j e. let lt = h.there x j e in omega arith;
}

pub scopes_more : (ts more : List Ty) (k n : ℕ) (cs : List Scope) (ms : List meant.Scope) → k ≤ n →
    ShowScopes ts k cs ms → ShowScopes (ts ++ more) n cs ms
scopes_more ts more k n [] [] le h = h
scopes_more ts more k n [] (m ∷ ms) le h = h
scopes_more ts more k n (c ∷ cs) [] le h = h
scopes_more ts more k n (c ∷ cs) (m ∷ ms) le h =
    (scope_more ts more k n c m le h.0, scopes_more ts more k n cs ms le h.1)

-- ---- declared things

declared_more : (file : List ℕ) (ts more : List Ty) (s : Span) (q : Pos) (of : ℕ) (t : Lexeme) (x : Ty) →
    declared_at file ts s q of ≡ declared_as t x → declared_at file (ts ++ more) s q of ≡ declared_as t x
declared_more file ts more s q of t x h =
    let i : named ts of ≡ Some x = ap (λ (d : Declared). d.of) h in
    let j : named (ts ++ more) of ≡ named ts of = slice_get-longer ts more of x i ∙ sym i in
    ap (λ o. record (declared_at file ts s q of) { of = o }) j ∙ h

member_more : (ts more : List Ty) (m : Member) (x : Part) → member_kept ts m ≡ part_seen x →
    member_kept (ts ++ more) m ≡ part_seen x
member_more ts more m x h =
    let i : named ts m.of ≡ Some x.of = ap (λ y. y.1) h in
    let j : named (ts ++ more) m.of ≡ named ts m.of = slice_get-longer ts more m.of x.of i ∙ sym i in
    ap (λ o. (m.name, o)) j ∙ h

listed_more : (ts more : List Ty) (ms : List Member) (ps : Option (List Part)) →
    Some (map (member_kept ts) ms) ≡ option_map (map part_seen) ps →
    Some (map (member_kept (ts ++ more)) ms) ≡ option_map (map part_seen) ps
listed_more ts more ms None h = absurd cc
listed_more ts more ms (Some ps) h =
    let i : map (member_kept ts) ms ≡ map part_seen ps = cc in
    ap (λ y. Some y) (map_more (member_kept ts) (member_kept (ts ++ more)) part_seen ms ps (member_more ts more) i)

members_more : (ts more : List Ty) (o : Option CType) (ps : Option (List Part)) →
    members_kept ts o ≡ option_map (map part_seen) ps → members_kept (ts ++ more) o ≡ option_map (map part_seen) ps
members_more ts more None ps h = h
members_more ts more (Some ctypes.Void) ps h = h
members_more ts more (Some (ctypes.Int k n)) ps h = h
members_more ts more (Some (ctypes.Cap s)) ps h = h
members_more ts more (Some (ctypes.Pointer t)) ps h = h
members_more ts more (Some (ctypes.Array t n)) ps h = h
members_more ts more (Some (ctypes.Struct n ms)) ps h = listed_more ts more ms ps h
members_more ts more (Some (ctypes.Union n ms)) ps h = listed_more ts more ms ps h
members_more ts more (Some (ctypes.Function t qs)) ps h = h
members_more ts more (Some (ctypes.Const t)) ps h = h
members_more ts more (Some (ctypes.Incomplete n)) ps h = h

tag_more : (types new : List CType) (ts more : List Ty) (i : TagInfo) (t : TagState) → i.of < length types →
    tag_kept types ts i ≡ tag_seen t → tag_kept (types ++ new) (ts ++ more) i ≡ tag_seen t
tag_more types new ts more i t lt h =
    let a : members_kept ts (slice_get types i.of) ≡ option_map (map part_seen) t.members =
    ap (λ (x : SeenTag). x.members) h in
    let b : members_kept (ts ++ more) (slice_get (types ++ new) i.of) ≡ members_kept ts (slice_get types i.of) =
    ap (members_kept (ts ++ more)) (slice_get-front types new i.of lt)
    ∙ members_more ts more (slice_get types i.of) t.members a ∙ sym a in
    ap (λ o. record (tag_kept types ts i) { members = o }) b ∙ h

pub tags_more : (types new : List CType) (ts more : List Ty) (is : List TagInfo) (tags : List TagState) →
    ((n : ℕ) (i : TagInfo) → slice_get is n ≡ Some i → i.of < length types) →
    map (tag_kept types ts) is ≡ map tag_seen tags → map (tag_kept (types ++ new) (ts ++ more)) is ≡ map tag_seen tags
tags_more types new ts more [] tags k h = h
tags_more types new ts more (i ∷ is) [] k h = absurd cc
tags_more types new ts more (i ∷ is) (t ∷ tags) k h =
    let a : tag_kept types ts i ≡ tag_seen t = cc in
    let b : map (tag_kept types ts) is ≡ map tag_seen tags = cc in
    let c = tag_more types new ts more i t (k 0 i refl) a in
    let d = tags_more types new ts more is tags (λ n j e. k (suc n) j e) b in
    cc

-- ---- all of it

-- the tags of a list have the types with their numbers
abbrev pub HaveTypes : List Ty → List TagInfo → Type 0
HaveTypes ts is = (n : ℕ) (i : TagInfo) → slice_get is n ≡ Some i → named ts i.of ≡ Some (Tagged n)

-- more types, and perhaps other tags
pub stands_grown : (sc : Scopes) (v : Vec TagInfo) (p : Typed) (s : State) (ms : List TagState) (new : List CType)
    (more : List Ty) → Stands sc p s → types_of (p.types ++ new) ≡ types_of p.types ++ more →
    length sc.tags.items ≤ length v.items →
    map (tag_kept (p.types ++ new) (types_of p.types ++ more)) v.items ≡ map tag_seen ms →
    HaveTypes (types_of p.types ++ more) v.items → AreOfKinds (p.types ++ new) v.items →
    AreTagged (types_of p.types ++ more) v.items → ShowsMembers sc.file.now sc.stale sc.named.entries ms →
    Stands (record sc { tags = v }) (record p { types = p.types ++ new }) (record s { tags = ms })
stands_grown sc v p s ms new more h e le t have kinds are m =
    let file = sc.file.now in
    let ts = types_of p.types in
    record {
      scopes = rw e (scopes_more ts more (length sc.tags.items) (length v.items)
          (reverse sc.scopes.items) s.scopes le h.scopes);
      tags = rw e t;
      tag_types = rw e have;
      kinds = kinds;
      tagged = rw e are;
      members = m;
      objects = h.objects;
      globals = rw e (map_more (global_kept file ts) (global_kept file (ts ++ more)) static_seen p.globals s.statics
          (λ a b g. declared_more file ts more a.name a.pos a.of b.name b.of g) h.globals);
      begun = h.begun;
      routines = rw e (map_more (fun_kept file ts) (fun_kept file (ts ++ more)) routine_seen p.funs s.routines
          (λ a b g. declared_more file ts more a.name a.pos a.of b.name b.of g) h.routines);
      locals = rw e (map_more (var_kept file ts) (var_kept file (ts ++ more)) local_seen sc.locals.items s.locals
          (λ a b g. declared_more file ts more a.name a.pos a.of b.name b.of g) h.locals);
      int = rw e (slice_get-longer ts more sc.int _ h.int);
      linked = h.linked;
    }

pub tags_longer : (sc : Scopes) (p : Typed) (s : State) (new : List CType) (more : List Ty) → Stands sc p s →
    map (tag_kept (p.types ++ new) (types_of p.types ++ more)) sc.tags.items ≡ map tag_seen s.tags
tags_longer sc p s new more h =
    let ts = types_of p.types in
    tags_more p.types new ts more sc.tags.items s.tags
    (λ n i g. omega (arith, slice_get_within ts i.of _ (h.tag_types n i g), length-types_of p.types)) h.tags

pub kinds_longer : (sc : Scopes) (p : Typed) (s : State) (new : List CType) → Stands sc p s →
    AreOfKinds (p.types ++ new) sc.tags.items
kinds_longer sc p s new h n i e =
    rw (slice_get-front p.types new i.of
    (omega (arith, slice_get_within (types_of p.types) i.of _ (h.tag_types n i e), length-types_of p.types)))
    (h.kinds n i e)

-- types may be added at any time
pub stands_more : (sc : Scopes) (p q : Typed) (s : State) → AddsTypes p q → Stands sc p s → Stands sc q s
stands_more sc p q s a h =
    let l = types_longer p.types a.added in
    let ts = types_of p.types in
    let r : Stands sc (record p { types = p.types ++ a.added }) s =
    stands_grown sc sc.tags p s s.tags a.added l.0 h l.1 (omega arith) (tags_longer sc p s a.added l.0 h)
    (λ n i g. slice_get-longer ts l.0 i.of _ (h.tag_types n i g)) (kinds_longer sc p s a.added h)
    (added_tagged p.types a.added l.0 sc.tags.items l.1 a.plain h.tagged) h.members in
    let e : record p { types = p.types ++ a.added } ≡ q =
    ap (λ ts. record p { types = ts }) (sym a.types) ∙ sym a.rest in
    subst (λ x. Stands sc x s) e r

-- the numbers of types are no part of what is shown
pub stands_numbers : (sc : Scopes) (n : Numbers) (p : Typed) (s : State) → Stands sc p s →
    Stands (record sc { numbers = n }) p s
stands_numbers sc n p s h =
    record {
      scopes = h.scopes;
      tags = h.tags;
      tag_types = h.tag_types;
      kinds = h.kinds;
      tagged = h.tagged;
      members = h.members;
      objects = h.objects;
      globals = h.globals;
      begun = h.begun;
      routines = h.routines;
      locals = h.locals;
      int = h.int;
      linked = h.linked;
    }

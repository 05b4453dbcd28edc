-- Structs and unions: new ones, and their members.
use Rattle.std.proofs.Common.{◌≡◌, ℕ, zero, suc, ◌^◌, ◌<◌, ◌≤◌, List, [], ◌∷◌, ◌++◌, length, set, take, map, Option}
use Rattle.std.proofs.Common.{Some, None, Ok, Err, Bool, true, false, refl, sym, ap, subst, ◌∙◌, arith, inl, inr}
use Rattle.std.proofs.Common.{Result, length-append}
use Rattle.std.specs.Prelude.{◌⊎◌, ◌||◌, is_some, slice_get, option_map, reverse, nat_le, nat_eq, if◌then◌else◌}
use Rattle.std.specs.Global.{Vec}
use Rattle.std.proofs.lemmas.List.{map_push, map-set, length-set, append-nil}
use Rattle.std.proofs.lemmas.Option.{slice_get_within, same_Some, none-some, get_or_from_slice_get}
use Rattle.ck_base.specs.declared.positions.Pos.{Pos}
use Rattle.ck_base.specs.declared.positions.Span.{Span}
use Rattle.c_tree.specs.declared.syntax.RecordKind.{RecordKind}
use Rattle.c_tree.specs.declared.syntax.RecordKind.TheVariants as records
use Rattle.c_tree.specs.Layout.{Extent, size_limit, with_extent, members, no_members, whole, times, member_offset}
use Rattle.c_tree.specs.Layout.{behind, within}
use Rattle.cap_layout.specs.declared.answers.LayoutFault.{LayoutFault}
use Rattle.cap_layout.specs.Answers.{Exceeds}
use Rattle.cap_layout.specs.Walks.{placing}
use Rattle.std.proofs.lemmas.Bool.{false≢true, le-leb, leb-true, eqb-true, eq-eqb}
use Rattle.c_type_sizes.specs.Sizes.{numbered_extent, room_extent, IsRecordRoom}
use Rattle.c_types.specs.Sizes.{is_union, has_tag, completed_type, AreStarts}
use Rattle.c_tree.specs.declared.typed.CType.{CType}
use Rattle.c_tree.specs.declared.typed.CType.TheVariants as ctypes
use Rattle.c_tree.specs.declared.typed.Member.{Member}
use Rattle.c_tree.specs.declared.typed.Typed.{Typed}
use Rattle.c_tree.specs.Types as types
use Rattle.c_tree.specs.Types.{Ty, Tagged}
use Rattle.c_tree.specs.Views.{grow, type_from, type_at, types_of}
use Rattle.c_tree.specs.Scopes.{State, TagState, Part, changed_at, with_changed, type_extent, tag_extent, extent_size}
use Rattle.c_tree.specs.Declarators.{is_begun, begin_tag, complete_tag, completed, members_extent, record_extent}
use Rattle.c_tree.specs.Declarators.{kind_at, has_kind, same_record}
use Rattle.c_type_sizes.specs.declared.rooms.Room.{Room}
use Rattle.c_types.specs.declared.scopes.TagInfo.{TagInfo}
use Rattle.c_types.specs.declared.scopes.MemberTable.{MemberTable}
use Rattle.c_tree.specs.Initializers.{or_none, next_within, struct_places, record_places, known_places}
use Rattle.std.specs.Map.{lookup}
use Rattle.c_types.specs.declared.scopes.Scopes.{Scopes}
use Rattle.c_types.specs.Stands.{Stands, IsOfKind, AreOfKinds, AreTagged, SeenTag, ShowScopes, tag_seen, tag_kept}
use Rattle.c_types.specs.Stands.{part_seen, member_kept, members_kept}
use Rattle.c_types.specs.Stands.{named, first_named, first_part, number_among, offset_among, starts_in, ShowsMembers}
use Rattle.c_types.specs.Members.{parts_of}
use Rattle.c_types.specs.Calls.{Given, Fails, HasParts}
use Rattle.c_interner.proofs.Growing.{types_of-push, length-types_of, type_at-level}
use Rattle.c_types.proofs.Plain.{there_is}
use Rattle.c_types.proofs.Growth.{scopes_more, HaveTypes, stands_grown, tags_longer, kinds_longer}
use Rattle.c_types.proofs.Growth.{slice_get-longer}
use Rattle.c_types.proofs.Looking.{seen_at, seen_length}
use Rattle.c_types.proofs.Sizing.{next_stays}

-- ---- lists

pub seen_none : {A B C : Type 0} (f : A → C) (g : B → C) (xs : List A) (ys : List B) (k : ℕ) → map f xs ≡ map g ys →
    slice_get xs k ≡ None → slice_get ys k ≡ None
seen_none f g [] [] k e h = refl
seen_none f g [] (b ∷ ys) k e h = absurd cc
seen_none f g (a ∷ xs) [] k e h = refl
seen_none f g (a ∷ xs) (b ∷ ys) zero e h = absurd (none-some a (sym h))
seen_none f g (a ∷ xs) (b ∷ ys) (suc k) e h = let i : map f xs ≡ map g ys = cc in seen_none f g xs ys k i h

pub slice_get-push : {A : Type 0} (xs : List A) (x : A) → slice_get (xs ++ x ∷ []) (length xs) ≡ Some x
slice_get-push [] x = refl
slice_get-push (a ∷ xs) x = slice_get-push xs x

pub push_cases : {A : Type 0} (xs : List A) (x y : A) (k : ℕ) → slice_get (xs ++ x ∷ []) k ≡ Some y →
    (slice_get xs k ≡ Some y) ⊎ ((k ≡ length xs) × (x ≡ y))
push_cases [] x y zero e = inr (refl, same_Some x y e)
push_cases [] x y (suc k) e = absurd (none-some y e)
push_cases (a ∷ xs) x y zero e = inl e
push_cases (a ∷ xs) x y (suc k) e =
    elim (push_cases xs x y k e) as
    (λ _. (slice_get (a ∷ xs) (suc k) ≡ Some y) ⊎ ((suc k ≡ length (a ∷ xs)) × (x ≡ y))) [
      | inl h ↦ inl h
      | inr h ↦ inr (ap suc h.0, h.1)
    ]

pub set_cases : {A : Type 0} (xs : List A) (n : ℕ) (x y : A) (k : ℕ) → slice_get (set xs n x) k ≡ Some y →
    (slice_get xs k ≡ Some y) ⊎ ((k ≡ n) × (x ≡ y))
set_cases [] n x y k e = inl e
set_cases (a ∷ xs) zero x y zero e = inr (refl, same_Some x y e)
set_cases (a ∷ xs) zero x y (suc k) e = inl e
set_cases (a ∷ xs) (suc n) x y zero e = inl e
set_cases (a ∷ xs) (suc n) x y (suc k) e =
    elim (set_cases xs n x y k e) as (λ _. (slice_get xs k ≡ Some y) ⊎ ((suc k ≡ suc n) × (x ≡ y))) [
      | inl h ↦ inl h
      | inr h ↦ inr (ap suc h.0, h.1)
    ]

pub slice_get-slice_set : {A : Type 0} (xs : List A) (k : ℕ) (x y : A) → slice_get xs k ≡ Some x →
    slice_get (set xs k y) k ≡ Some y
slice_get-slice_set [] k x y e = absurd cc
slice_get-slice_set (a ∷ xs) zero x y e = refl
slice_get-slice_set (a ∷ xs) (suc k) x y e = slice_get-slice_set xs k x y e

pub slice_get-set_apart : {A : Type 0} (xs : List A) (k j : ℕ) (y : A) → (j ≡ k → ⊥) →
    slice_get (set xs k y) j ≡ slice_get xs j
slice_get-set_apart [] k j y h = refl
slice_get-set_apart (a ∷ xs) zero zero y h = absurd (h refl)
slice_get-set_apart (a ∷ xs) zero (suc j) y h = refl
slice_get-set_apart (a ∷ xs) (suc k) zero y h = refl
slice_get-set_apart (a ∷ xs) (suc k) (suc j) y h = slice_get-set_apart xs k j y (λ e. h (ap suc e))

-- ---- sizes and offsets stay

abbrev pub no_tag : RecordKind → TagState
no_tag k = record { kind = k; begun = false; members = None; extent = None }

-- a tag has its members and its size
pub record IsSameTag (t u : TagState) : Type 0 where
  pub kind : u.kind ≡ t.kind
  pub members : u.members ≡ t.members
  pub extent : u.extent ≡ t.extent

-- each tag stays, and those beside them have no members
pub record TagsStay (ts us : List TagState) : Type 0 where
  pub old : (n : ℕ) (t : TagState) → slice_get ts n ≡ Some t →
      (u : TagState) × (slice_get us n ≡ Some u) × IsSameTag t u
  pub new : (n : ℕ) (u : TagState) → slice_get ts n ≡ None → slice_get us n ≡ Some u →
      (u.members ≡ None) × (u.extent ≡ None)

-- sizes that are known stay
abbrev pub ExtentsStay : List TagState → List TagState → Type 0
ExtentsStay ts us = (n : ℕ) (x : Extent) → tag_extent (slice_get ts n) ≡ Some x → tag_extent (slice_get us n) ≡ Some x

with_known : (o r : Option Extent) (f : Extent → Option Extent) (x : Extent) →
    ((y : Extent) → o ≡ Some y → r ≡ Some y) → with_extent o f ≡ Some x → with_extent r f ≡ Some x
with_known None r f x h e = absurd (none-some x e)
with_known (Some y) r f x h e = rw (h y refl) e

extent_stays : (ts us : List TagState) → ExtentsStay ts us → (t : Ty) (x : Extent) → type_extent ts t ≡ Some x →
    type_extent us t ≡ Some x
extent_stays ts us g types.Void x e = e
extent_stays ts us g (types.Int k n) x e = e
extent_stays ts us g (types.Cap s) x e = e
extent_stays ts us g (types.Pointer t) x e = e
extent_stays ts us g (types.Array t n) x e =
    with_known (type_extent ts t) (type_extent us t) (times n) x (λ y h. extent_stays ts us g t y h) e
extent_stays ts us g (Tagged n) x e = g n x e
extent_stays ts us g (types.Function r ps) x e = e
extent_stays ts us g (types.Const t) x e = extent_stays ts us g t x e

struct_stays : (ts us : List TagState) → ExtentsStay ts us → (ms : List Part) (x : Extent) (k z : ℕ) →
    slice_get (map (λ (y : ℕ × Ty). y.0) (struct_places ts ms x)) k ≡ Some z →
    slice_get (map (λ (y : ℕ × Ty). y.0) (struct_places us ms x)) k ≡ Some z
struct_stays ts us g [] x k z e = e
struct_stays ts us g (m ∷ ms) x k z e =
    by_extent (λ y j i. struct_stays ts us g ms (behind y x) j z i) (next_within x (type_extent ts m.of)) refl e
  where
    by_extent : ((y : Extent) (j : ℕ) →
        slice_get (map (λ (q : ℕ × Ty). q.0) (struct_places ts ms (behind y x))) j ≡ Some z →
        slice_get (map (λ (q : ℕ × Ty). q.0) (struct_places us ms (behind y x))) j ≡ Some z) → (o : Option Extent) →
        next_within x (type_extent ts m.of) ≡ o →
        slice_get (map (λ (y : ℕ × Ty). y.0)
        (or_none o (λ y. (member_offset y x, m.of) ∷ struct_places ts ms (behind y x)))) k ≡ Some z →
        slice_get (map (λ (y : ℕ × Ty). y.0)
        (or_none (next_within x (type_extent us m.of))
        (λ y. (member_offset y x, m.of) ∷ struct_places us ms (behind y x)))) k ≡ Some z
    by_extent others None f i = absurd (none-some z i)
    by_extent others (Some y) f i =
        let h : next_within x (type_extent us m.of) ≡ Some y =
        next_stays x y (type_extent ts m.of) (type_extent us m.of) f (extent_stays ts us g m.of) in
        rw h (by_number k i)
      where
        by_number : (j : ℕ) →
            slice_get (member_offset y x ∷ map (λ (q : ℕ × Ty). q.0) (struct_places ts ms (behind y x))) j ≡ Some z →
            slice_get (member_offset y x ∷ map (λ (q : ℕ × Ty). q.0) (struct_places us ms (behind y x))) j ≡ Some z
        by_number zero i = i
        by_number (suc j) i = others y j i

record_stays : (ts us : List TagState) → ExtentsStay ts us → (kind : RecordKind) (ms : List Part) (k z : ℕ) →
    slice_get (map (λ (y : ℕ × Ty). y.0) (record_places ts kind ms)) k ≡ Some z →
    slice_get (map (λ (y : ℕ × Ty). y.0) (record_places us kind ms)) k ≡ Some z
record_stays ts us g records.Struct ms k z e = struct_stays ts us g ms no_members k z e
record_stays ts us g records.Union [] k z e = e
record_stays ts us g records.Union (m ∷ ms) k z e = by_extent (within (type_extent ts m.of)) refl e
  where
    by_extent : (o : Option Extent) → within (type_extent ts m.of) ≡ o →
        slice_get (map (λ (y : ℕ × Ty). y.0) (or_none o (λ y. (0, m.of) ∷ []))) k ≡ Some z →
        slice_get (map (λ (y : ℕ × Ty). y.0) (or_none (within (type_extent us m.of)) (λ y. (0, m.of) ∷ []))) k ≡ Some z
    by_extent None f i = absurd (none-some z i)
    by_extent (Some y) f i =
        let h : within (type_extent us m.of) ≡ Some y =
        next_stays no_members y (type_extent ts m.of) (type_extent us m.of) f (extent_stays ts us g m.of) in
        rw h i

known_stays : (ts us : List TagState) → ExtentsStay ts us → (kind : RecordKind) (ms : Option (List Part)) (k z : ℕ) →
    slice_get (map (λ (y : ℕ × Ty). y.0) (known_places ts kind ms)) k ≡ Some z →
    slice_get (map (λ (y : ℕ × Ty). y.0) (known_places us kind ms)) k ≡ Some z
known_stays ts us g kind None k z e = e
known_stays ts us g kind (Some ms) k z e = record_stays ts us g kind ms k z e

starts_stay : (ts us : List TagState) → ExtentsStay ts us → (t u : TagState) → u.kind ≡ t.kind →
    u.members ≡ t.members → (k z : ℕ) → slice_get (starts_in ts (Some t)) k ≡ Some z →
    slice_get (starts_in us (Some u)) k ≡ Some z
starts_stay ts us g t u i m k z e = rw (i, m) (known_stays ts us g t.kind t.members k z e)

-- ---- other tags

extents_stay : (ts us : List TagState) → TagsStay ts us → ExtentsStay ts us
extents_stay ts us g n x e = by_tag (slice_get ts n) refl e
  where
    by_tag : (o : Option TagState) → slice_get ts n ≡ o → tag_extent o ≡ Some x →
        tag_extent (slice_get us n) ≡ Some x
    by_tag None f i = absurd (none-some x i)
    by_tag (Some t) f i = let u = g.old n t f in rw u.1 (u.2.extent ∙ i)

members_stay : (file : List ℕ) (stale : Bool) (tables : List (ℕ × MemberTable)) (ts us : List TagState) →
    TagsStay ts us → length us ≤ 2 ^ 32 → ShowsMembers file stale tables ts → ShowsMembers file stale tables us
members_stay file stale tables ts us g few h = record {
  numbers = λ n name. h.numbers n name ∙ ap (λ o. first_part file o name) (by_parts n (slice_get ts n) refl);
  offsets = λ f n k z e. by_starts n k z (slice_get ts n) refl (h.offsets f n k z e);
  sizes = λ n u e m. by_open n u (slice_get ts n) refl e m;
  few = few;
}
  where
    none_before : (o : Option TagState) → (u : TagState) → o ≡ Some u → u.members ≡ None → parts_of o ≡ None
    none_before o u e m = rw e m

    by_new : (n : ℕ) (o : Option TagState) → slice_get us n ≡ o → slice_get ts n ≡ None → None ≡ parts_of o
    by_new n None e f = refl
    by_new n (Some u) e f = sym (g.new n u f e).0

    by_parts : (n : ℕ) (o : Option TagState) → slice_get ts n ≡ o → parts_of o ≡ parts_of (slice_get us n)
    by_parts n None e = by_new n (slice_get us n) refl e
    by_parts n (Some t) e = let u = g.old n t e in rw u.1 (sym u.2.members)

    by_starts : (n k z : ℕ) (o : Option TagState) → slice_get ts n ≡ o → slice_get (starts_in ts o) k ≡ Some z →
        slice_get (starts_in us (slice_get us n)) k ≡ Some z
    by_starts n k z None e f = absurd (none-some z f)
    by_starts n k z (Some t) e f =
        let u = g.old n t e in
        rw u.1 (starts_stay ts us (extents_stay ts us g) t u.0 u.2.kind u.2.members k z f)

    by_open : (n : ℕ) (u : TagState) (o : Option TagState) → slice_get ts n ≡ o → slice_get us n ≡ Some u →
        u.members ≡ None → u.extent ≡ None
    by_open n u None e f m = (g.new n u e f).1
    by_open n u (Some t) e f m =
        let v = g.old n t e in
        let w : v.0 ≡ u = same_Some v.0 u (sym v.1 ∙ f) in
        ap (λ (x : TagState). x.extent) (sym w) ∙ v.2.extent
        ∙ h.sizes n t e (sym v.2.members ∙ ap (λ (x : TagState). x.members) w ∙ m)

tags_pushed : (ts : List TagState) (k : RecordKind) → TagsStay ts (ts ++ no_tag k ∷ [])
tags_pushed ts k = record {
  old = λ n t e. (t, slice_get-longer ts (no_tag k ∷ []) n t e, record { kind = refl; members = refl; extent = refl });
  new = λ n u e f. elim (push_cases ts (no_tag k) u n f) as (λ _. (u.members ≡ None) × (u.extent ≡ None)) [
    | inl g ↦ absurd (none-some u (sym e ∙ g))
    | inr g ↦ (ap (λ (x : TagState). x.members) (sym g.1), ap (λ (x : TagState). x.extent) (sym g.1))
  ];
}

tags_set : (ts : List TagState) (n : ℕ) (t u : TagState) → slice_get ts n ≡ Some t → IsSameTag t u →
    TagsStay ts (set ts n u)
tags_set ts n t u e q = record { old = λ m w f. old ts n m w e f; new = λ m w f i. new m w f i }
  where
    old : (xs : List TagState) (n m : ℕ) (w : TagState) → slice_get xs n ≡ Some t → slice_get xs m ≡ Some w →
        (v : TagState) × (slice_get (set xs n u) m ≡ Some v) × IsSameTag w v
    old [] n m w e f = absurd (none-some w f)
    old (x ∷ xs) zero zero w e f =
        let z : t ≡ w = same_Some t w (sym e ∙ f) in
        (u, refl, subst (λ y. IsSameTag y u) z q)
    old (x ∷ xs) zero (suc m) w e f = (w, f, record { kind = refl; members = refl; extent = refl })
    old (x ∷ xs) (suc n) zero w e f = (w, f, record { kind = refl; members = refl; extent = refl })
    old (x ∷ xs) (suc n) (suc m) w e f = old xs n m w e f

    new : (m : ℕ) (w : TagState) → slice_get ts m ≡ None → slice_get (set ts n u) m ≡ Some w →
        (w.members ≡ None) × (w.extent ≡ None)
    new m w f i = elim (set_cases ts n u w m i) as (λ _. (w.members ≡ None) × (w.extent ≡ None)) [
      | inl g ↦ absurd (none-some w (sym f ∙ g))
      | inr g ↦ absurd (none-some t (sym f ∙ ap (slice_get ts) g.0 ∙ e))
    ]

-- another tag in the place of one, with the same type
tagged_set : (ts : List Ty) (is : List TagInfo) (n : ℕ) (i j : TagInfo) → slice_get is n ≡ Some i → j.of ≡ i.of →
    AreTagged ts is → AreTagged ts (set is n j)
tagged_set ts is n i j e o h k m f = let x = h k m f in by_number x.0 x.1 x.2 (nat_eq n m) refl
  where
    by_number : (x : TagInfo) → slice_get is m ≡ Some x → x.of ≡ k → (b : Bool) → nat_eq n m ≡ b →
        (y : TagInfo) × (slice_get (set is n j) m ≡ Some y) × (y.of ≡ k)
    by_number x at of true g =
        let q : n ≡ m = eqb-true n m g in
        let same : i ≡ x = same_Some i x (sym e ∙ ap (slice_get is) q ∙ at) in (
          j,
          ap (slice_get (set is n j)) (sym q) ∙ slice_get-slice_set is n i j e,
          o ∙ ap (λ (y : TagInfo). y.of) same ∙ of,
        )
    by_number x at of false g =
        (x, slice_get-set_apart is n m j (λ z. false≢true (sym g ∙ eq-eqb n m (sym z))) ∙ at, of)

pub stands_tags : (sc : Scopes) (v : Vec TagInfo) (p : Typed) (s : State) (ms : List TagState) → Stands sc p s →
    length sc.tags.items ≤ length v.items → map (tag_kept p.types (types_of p.types)) v.items ≡ map tag_seen ms →
    HaveTypes (types_of p.types) v.items → AreOfKinds p.types v.items → AreTagged (types_of p.types) v.items →
    TagsStay s.tags ms → length ms ≤ 2 ^ 32 → Stands (record sc { tags = v }) p (record s { tags = ms })
stands_tags sc v p s ms h le e t kinds are m few = record {
  scopes = subst (λ x. ShowScopes x (length v.items) (reverse sc.scopes.items) s.scopes) (append-nil (types_of p.types))
      (scopes_more (types_of p.types) [] (length sc.tags.items) (length v.items)
      (reverse sc.scopes.items) s.scopes le h.scopes);
  tags = e;
  tag_types = t;
  kinds = kinds;
  tagged = are;
  members = members_stay sc.file.now sc.stale sc.named.entries s.tags ms m few h.members;
  objects = h.objects;
  globals = h.globals;
  begun = h.begun;
  routines = h.routines;
  locals = h.locals;
  int = h.int;
  linked = h.linked;
}

-- ---- a new one

pub stands_new_tag : (sc : Scopes) (v : Vec TagInfo) (p q : Typed) (s : State) (k : RecordKind) (n of : ℕ) →
    Stands sc p s → q.types ≡ p.types ++ ctypes.Incomplete n ∷ [] → q ≡ record p { types = q.types } →
    of ≡ length p.types → n ≡ length sc.tags.items → n < 2 ^ 32 →
    v.items ≡ sc.tags.items ++ record { kind = k; begun = false; of = of; room = None } ∷ [] →
    Stands (record sc { tags = v }) q (record s { tags = s.tags ++ no_tag k ∷ [] })
stands_new_tag sc v p q s k n of h e r o m small g =
    let i : TagInfo = record { kind = k; begun = false; of = of; room = None } in
    let new : List CType = ctypes.Incomplete n ∷ [] in
    let ts = types_of p.types in
    let more : List Ty = Tagged n ∷ [] in
    let c : slice_get (p.types ++ new) of ≡ Some (ctypes.Incomplete n) =
    rw o (slice_get-push p.types (ctypes.Incomplete n)) in
    let is : of ≡ length ts = o ∙ sym (length-types_of p.types) in
    let t : named (ts ++ more) of ≡ Some (Tagged n) = rw is (slice_get-push ts (Tagged n)) in
    let le : length sc.tags.items ≤ length v.items = rw g (omega (arith, length-append sc.tags.items (i ∷ []))) in
    let kept : tag_kept (p.types ++ new) (ts ++ more) i ≡ tag_seen (no_tag k) =
    ap (λ x. tag_kept_with k (members_kept (ts ++ more) x)) c in
    let all : Stands (record sc { tags = v }) (record p { types = p.types ++ new })
    (record s { tags = s.tags ++ no_tag k ∷ [] }) =
    stands_grown sc v p s (s.tags ++ no_tag k ∷ []) new more h (types_of-push p.types (ctypes.Incomplete n)) le
    (rw g (map_push (tag_kept (p.types ++ new) (ts ++ more)) sc.tags.items i
    ∙ pushed _ _ _ _ (tags_longer sc p s new more h) kept ∙ sym (map_push tag_seen s.tags (no_tag k))))
    (λ j x f. let w : slice_get (sc.tags.items ++ i ∷ []) j ≡ Some x = rw (← g) f in
    elim (push_cases sc.tags.items i x j w) as (λ _. named (ts ++ more) x.of ≡ Some (Tagged j)) [
      | inl y ↦ slice_get-longer ts more x.of _ (h.tag_types j x y)
      | inr y ↦ rw (← y.1, y.0, ← m) t
    ])
    (λ j x f. let w : slice_get (sc.tags.items ++ i ∷ []) j ≡ Some x = rw (← g) f in
    elim (push_cases sc.tags.items i x j w) as (λ _. IsOfKind x.kind (slice_get (p.types ++ new) x.of)) [
      | inl y ↦ kinds_longer sc p s new h j x y
      | inr y ↦ rw (← y.1, c) tt
    ])
    (λ j b f. elim (push_cases ts (Tagged n) (Tagged b) j f) as
    (λ _. (x : TagInfo) × (slice_get v.items b ≡ Some x) × (x.of ≡ j)) [
      | inl y ↦ (let x = h.tagged j b y in
          (x.0, rw g (slice_get-longer sc.tags.items (i ∷ []) b x.0 x.1), x.2))
      | inr y ↦ (i, rw (g, ← numbers_same n b y.1, m) (slice_get-push sc.tags.items i), is ∙ sym y.0)
    ])
    (members_stay sc.file.now sc.stale sc.named.entries s.tags (s.tags ++ no_tag k ∷ []) (tags_pushed s.tags k)
    (omega (
      arith,
      seen_length (tag_kept p.types ts) tag_seen sc.tags.items s.tags h.tags,
      length-append s.tags (no_tag k ∷ []),
    )) h.members)
    in
    subst (λ z. Stands (record sc { tags = v }) z (record s { tags = s.tags ++ no_tag k ∷ [] }))
    (ap (λ cs. record p { types = cs }) (sym e) ∙ sym r) all
  where
    numbers_same : (j n : ℕ) → Tagged j ≡ Tagged n → j ≡ n
    numbers_same j n e = cc

    tag_kept_with : RecordKind → Option (List (Span × Option Ty)) → SeenTag
    tag_kept_with k ms = record { kind = k; begun = false; members = ms; extent = None }

    pushed : (xs ys : List SeenTag) (x y : SeenTag) → xs ≡ ys → x ≡ y → xs ++ x ∷ [] ≡ ys ++ y ∷ []
    pushed xs ys x y d f = cc

-- ---- braces are opened

pub tag_begun : (sc : Scopes) (p : Typed) (s : State) (n : ℕ) (i : TagInfo) → Stands sc p s →
    slice_get sc.tags.items n ≡ Some i → is_begun (slice_get s.tags n) ≡ i.begun
tag_begun sc p s n i h e =
    let t = seen_at (tag_kept p.types (types_of p.types)) tag_seen sc.tags.items s.tags n i h.tags e in
    ap is_begun t.1 ∙ sym (ap (λ (x : SeenTag). x.begun) t.2)

pub begun_fails : (sc : Scopes) (p : Typed) (n : ℕ) (i : TagInfo) (place : Pos) → slice_get sc.tags.items n ≡ Some i →
    i.begun ≡ true → Fails sc p sc p (begin_tag n place) 131 place
begun_fails sc p n i place e b = record {
  refused = λ s h. let f : is_begun (slice_get s.tags n) ≡ true = tag_begun sc p s n i h e ∙ b in rw f refl;
  program = refl;
  keeps = λ s h. h;
}

pub begun_nothing : (sc : Scopes) (p : Typed) (s : State) (n : ℕ) (place : Pos) → Stands sc p s →
    slice_get sc.tags.items n ≡ None → Given sc p (begin_tag n place s) (λ t a. Unit {0})
begun_nothing sc p s n place h e =
    let f : slice_get s.tags n ≡ None =
    seen_none (tag_kept p.types (types_of p.types)) tag_seen sc.tags.items s.tags n h.tags e in
    let g : changed_at opened s.tags n ≡ s.tags = ap (λ o. with_changed opened o s.tags n) f in
    record { value = tt; state = s; is = rw f (ap (λ ts. Ok (tt, record s { tags = ts })) g); stands = h; fits = tt }
  where
    opened : TagState → TagState
    opened t = record t { begun = true }

pub with_tag : (sc : Scopes) (p : Typed) (s : State) (n : ℕ) (i j : TagInfo) (u t : TagState) (v : Vec TagInfo) →
    Stands sc p s → slice_get sc.tags.items n ≡ Some i → j ≡ record i { begun = j.begun } →
    v.items ≡ set sc.tags.items n j → tag_kept p.types (types_of p.types) j ≡ tag_seen t →
    slice_get s.tags n ≡ Some u → IsSameTag u t →
    Stands (record sc { tags = v }) p (record s { tags = set s.tags n t })
with_tag sc p s n i j u t v h e o g k l q =
    let le : length sc.tags.items ≤ length v.items = rw g (omega (arith, length-set sc.tags.items n j)) in
    let kept = tag_kept p.types (types_of p.types) in
    let of : j.of ≡ i.of = ap (λ (x : TagInfo). x.of) o in
    stands_tags sc v p s (set s.tags n t) h le
    (rw g (map-set kept sc.tags.items n j ∙ same_set _ _ n _ _ h.tags k ∙ sym (map-set tag_seen s.tags n t)))
    (λ m x f. let w : slice_get (set sc.tags.items n j) m ≡ Some x = rw (← g) f in
    elim (set_cases sc.tags.items n j x m w) as (λ _. named (types_of p.types) x.of ≡ Some (Tagged m)) [
      | inl y ↦ h.tag_types m x y
      | inr y ↦ rw (← y.1, y.0, of) (h.tag_types n i e)
    ])
    (rw g (λ m x f. elim (set_cases sc.tags.items n j x m f) as (λ _. IsOfKind x.kind (slice_get p.types x.of)) [
      | inl y ↦ h.kinds m x y
      | inr y ↦ subst (λ (z : TagInfo). IsOfKind z.kind (slice_get p.types z.of)) (sym o ∙ y.1) (h.kinds n i e)
    ]))
    (rw g (tagged_set (types_of p.types) sc.tags.items n i j e of h.tagged))
    (tags_set s.tags n u t l q) (rw (length-set s.tags n t) h.members.few)
  where
    same_set : (xs ys : List SeenTag) (n : ℕ) (x y : SeenTag) → xs ≡ ys → x ≡ y → set xs n x ≡ set ys n y
    same_set xs ys n x y d f = cc

pub begun_now : (sc : Scopes) (p : Typed) (s : State) (n : ℕ) (i : TagInfo) (place : Pos) (v : Vec TagInfo) →
    Stands sc p s → slice_get sc.tags.items n ≡ Some i → i.begun ≡ false →
    v.items ≡ set sc.tags.items n (record i { begun = true }) →
    Given (record sc { tags = v }) p (begin_tag n place s) (λ t a. Unit {0})
begun_now sc p s n i place v h e b g =
    let t = seen_at (tag_kept p.types (types_of p.types)) tag_seen sc.tags.items s.tags n i h.tags e in
    let f : is_begun (slice_get s.tags n) ≡ false = tag_begun sc p s n i h e ∙ b in
    let k : tag_kept p.types (types_of p.types) (record i { begun = true }) ≡ tag_seen (record t.0 { begun = true }) =
    ap (λ (x : SeenTag). record x { begun = true }) t.2 in
    record {
      value = tt;
      state = record s { tags = set s.tags n (record t.0 { begun = true }) };
      is = rw (f, t.1) refl;
      stands = with_tag sc p s n i (record i { begun = true }) t.0 (record t.0 { begun = true }) v h e refl g k
          t.1 (record { kind = refl; members = refl; extent = refl });
      fits = tt;
    }

-- ---- members

pub parts_extent : (tags : List TagState) (cs : List CType) (shared : Bool) (parts : List Part) (ms : List Member)
    (x : Extent) → HasParts (types_of cs) parts ms →
    members_extent tags (placing shared) parts x
    ≡ with_extent (members (placing shared) (numbered_extent tags cs) ms x) whole
unfolding members
parts_extent tags cs shared [] [] x h = refl
parts_extent tags cs shared [] (m ∷ ms) x h = absurd cc
parts_extent tags cs shared (r ∷ rs) [] x h = absurd cc
parts_extent tags cs shared (r ∷ rs) (m ∷ ms) x h =
    let a : part_seen r ≡ member_kept (types_of cs) m = cc in
    let b : HasParts (types_of cs) rs ms = cc in
    let n : named (types_of cs) m.of ≡ Some r.of = sym (ap (λ y. y.1) a) in
    let t : type_at (types_of cs) m.of ≡ r.of = get_or_from_slice_get (types_of cs) m.of r.of types.Void n in
    rw t (inside (type_extent tags r.of) (λ y. parts_extent tags cs shared rs ms (placing shared y x) b))
  where
    inside : (o : Option Extent) →
        ((y : Extent) → members_extent tags (placing shared) rs (placing shared y x)
        ≡ with_extent (members (placing shared) (numbered_extent tags cs) ms (placing shared y x)) whole) →
        with_extent o (λ y. members_extent tags (placing shared) rs (placing shared y x))
        ≡ with_extent (with_extent o (λ y. members (placing shared) (numbered_extent tags cs) ms (placing shared y x)))
        whole
    inside None f = refl
    inside (Some y) f = f y

pub record_is : (tags : List TagState) (cs : List CType) (k : RecordKind) (parts : List Part) (ms : List Member) →
    HasParts (types_of cs) parts ms →
    record_extent tags k parts ≡ with_extent (members (placing (is_union k)) (numbered_extent tags cs) ms no_members)
    whole
record_is tags cs records.Struct parts ms h = parts_extent tags cs false parts ms no_members h
record_is tags cs records.Union parts ms h = parts_extent tags cs true parts ms no_members h

-- ---- a struct or union with its members in the list of types

completed_form : (k : RecordKind) (n : ℕ) (ms : List Member) (f : ℕ → Ty) →
    type_from (completed_type k n ms) f ≡ Tagged n
completed_form records.Struct n ms f = refl
completed_form records.Union n ms f = refl

grow-set : (cs : List CType) (ts : List Ty) (k : ℕ) (old new : CType) → slice_get cs k ≡ Some old →
    ((f : ℕ → Ty) → type_from new f ≡ type_from old f) →
    grow type_from types.Void (set cs k new) ts ≡ grow type_from types.Void cs ts
unfolding grow
grow-set [] ts k old new e h = refl
grow-set (c ∷ cs) ts zero old new e h =
    let i : c ≡ old = same_Some c old e in
    ap (λ t. grow type_from types.Void cs (ts ++ t ∷ [])) (h (type_at ts) ∙ ap (λ x. type_from x (type_at ts)) (sym i))
grow-set (c ∷ cs) ts (suc k) old new e h = grow-set cs (ts ++ type_from c (type_at ts) ∷ []) k old new e h

tag_form : (o : Option CType) (n : ℕ) → has_tag o n ≡ true →
    (c : CType) × (o ≡ Some c) × ((f : ℕ → Ty) → type_from c f ≡ Tagged n)
tag_form (Some (ctypes.Struct m ms)) n e = (ctypes.Struct m ms, refl, λ f. ap Tagged (eqb-true m n e))
tag_form (Some (ctypes.Union m ms)) n e = (ctypes.Union m ms, refl, λ f. ap Tagged (eqb-true m n e))
tag_form (Some (ctypes.Incomplete m)) n e = (ctypes.Incomplete m, refl, λ f. ap Tagged (eqb-true m n e))
tag_form o n e = absurd (false≢true e)

form_tag : (c : CType) (go : ℕ → Ty) (n : ℕ) → type_from c go ≡ Tagged n → has_tag (Some c) n ≡ true
form_tag ctypes.Void go n e = absurd cc
form_tag (ctypes.Int k m) go n e = absurd cc
form_tag (ctypes.Cap s) go n e = absurd cc
form_tag (ctypes.Pointer t) go n e = absurd cc
form_tag (ctypes.Array t m) go n e = absurd cc
form_tag (ctypes.Struct m ms) go n e = eq-eqb m n cc
form_tag (ctypes.Union m ms) go n e = eq-eqb m n cc
form_tag (ctypes.Function t ps) go n e = absurd cc
form_tag (ctypes.Const t) go n e = absurd cc
form_tag (ctypes.Incomplete m) go n e = eq-eqb m n cc

-- the type of a tag is there
pub tag_there : (sc : Scopes) (p : Typed) (s : State) (n : ℕ) (i : TagInfo) → Stands sc p s →
    slice_get sc.tags.items n ≡ Some i → has_tag (slice_get p.types i.of) n ≡ true
tag_there sc p s n i h e =
    let ts = types_of p.types in
    let t = h.tag_types n i e in
    let c = there_is p.types i.of (omega (arith, slice_get_within ts i.of (Tagged n) t, length-types_of p.types)) in
    let is : type_at ts i.of ≡ Tagged n = get_or_from_slice_get ts i.of (Tagged n) types.Void t in
    rw c.1 (form_tag c.0 (type_at (types_of (take i.of p.types))) n (sym (type_at-level p.types i.of c.0 c.1) ∙ is))

pub types_of-completed : (cs : List CType) (of n : ℕ) (k : RecordKind) (ms : List Member) →
    has_tag (slice_get cs of) n ≡ true → types_of (set cs of (completed_type k n ms)) ≡ types_of cs
types_of-completed cs of n k ms e =
    let c = tag_form (slice_get cs of) n e in
    grow-set cs [] of c.0 (completed_type k n ms) c.1 (λ f. completed_form k n ms f ∙ sym (c.2 f))

pub record_room : (tags : List TagState) (cs : List CType) (k : RecordKind) (parts : List Part) (ms : List Member)
    (shared : Bool) (r : Result (Option Room) LayoutFault) → shared ≡ is_union k → HasParts (types_of cs) parts ms →
    IsRecordRoom (with_extent (members (placing shared) (numbered_extent tags cs) ms no_members) whole) r →
    IsRecordRoom (record_extent tags k parts) r
record_room tags cs k parts ms shared r u h l =
    subst (λ o. IsRecordRoom o r) (sym (record_is tags cs k parts ms h))
    (subst (λ x. IsRecordRoom (with_extent (members (placing x) (numbered_extent tags cs) ms no_members) whole) r) u l)

-- ---- completion

-- a table of members that could not be kept
pub named_same : (sc sd : Scopes) (p : Typed) (s : State) → sd ≡ record sc { named = sd.named } →
    sd.named.entries ≡ sc.named.entries → Stands sc p s → Stands sd p s
named_same sc sd p s same g h =
    let r : Stands (record sc { named = sd.named }) p s = record {
      scopes = h.scopes;
      tags = h.tags;
      tag_types = h.tag_types;
      kinds = h.kinds;
      tagged = h.tagged;
      members = rw g h.members;
      objects = h.objects;
      globals = h.globals;
      begun = h.begun;
      routines = h.routines;
      locals = h.locals;
      int = h.int;
      linked = h.linked;
    } in
    subst (λ z. Stands z p s) (sym same) r

pub none_there : (sc : Scopes) (p : Typed) (s : State) (n : ℕ) (k : RecordKind) → Stands sc p s →
    slice_get sc.tags.items n ≡ None → kind_at s n k ≡ true → ⊥
none_there sc p s n k h e f =
    let none = seen_none (tag_kept p.types (types_of p.types)) tag_seen sc.tags.items s.tags n h.tags e in
    false≢true (sym (ap (λ o. has_kind o k) none) ∙ f)

same_record_is : (j k : RecordKind) → same_record j k ≡ true → j ≡ k
same_record_is records.Struct records.Struct e = refl
same_record_is records.Union records.Union e = refl
same_record_is records.Struct records.Union e = absurd (false≢true e)
same_record_is records.Union records.Struct e = absurd (false≢true e)

pub kind_is : (sc : Scopes) (p : Typed) (s : State) (n : ℕ) (i : TagInfo) (k : RecordKind) → Stands sc p s →
    slice_get sc.tags.items n ≡ Some i → kind_at s n k ≡ true → i.kind ≡ k
kind_is sc p s n i k h e g =
    let t = seen_at (tag_kept p.types (types_of p.types)) tag_seen sc.tags.items s.tags n i h.tags e in
    let a : same_record t.0.kind k ≡ true = sym (ap (λ o. has_kind o k) t.1) ∙ g in
    ap (λ (x : SeenTag). x.kind) t.2 ∙ same_record_is t.0.kind k a

not_within : (a b : ℕ) → b < a → nat_le a b ≡ false
not_within a b h = by_value (nat_le a b) refl
  where
    by_value : (v : Bool) → nat_le a b ≡ v → nat_le a b ≡ false
    by_value true e = absurd (let l = leb-true a b e in omega arith)
    by_value false e = e

pub over_fails : (s : State) (k : RecordKind) (n : ℕ) (parts : List Part) (place : Pos) →
    Exceeds (record_extent s.tags k parts) → complete_tag k n parts place s ≡ Err (record { code = 140; place = place })
over_fails s k n parts place x =
    let e : nat_le (extent_size (record_extent s.tags k parts)) size_limit ≡ false =
    rw x.is (not_within x.extent.size size_limit x.over) in
    rw e refl

room_passes : (o : Option Extent) (r : Option Room) → o ≡ option_map room_extent r →
    nat_le (extent_size o) size_limit ≡ true
room_passes o None e = rw e refl
room_passes o (Some r) e = rw e (le-leb r.size size_limit r.small)

map_alike : {A B : Type 0} (f g : A → B) (xs : List A) → ((m : ℕ) (b : A) → slice_get xs m ≡ Some b → f b ≡ g b) →
    map f xs ≡ map g xs
map_alike f g [] k = refl
map_alike f g (b ∷ xs) k = let i = k 0 b refl in let j = map_alike f g xs (λ m c e. k (suc m) c e) in cc

set_map_apart : {A B : Type 0} (f g : A → B) (xs : List A) (n : ℕ) (x : B) →
    ((m : ℕ) (a : A) → slice_get xs m ≡ Some a → (m ≡ n → ⊥) → f a ≡ g a) → set (map f xs) n x ≡ set (map g xs) n x
set_map_apart f g [] n x h = refl
set_map_apart f g (a ∷ xs) zero x h =
    ap (λ ys. x ∷ ys) (map_alike f g xs (λ m b e. h (suc m) b e (λ z. absurd (omega arith))))
set_map_apart f g (a ∷ xs) (suc n) x h =
    let i : f a ≡ g a = h 0 a refl (λ z. absurd (omega arith)) in
    let j = set_map_apart f g xs n x (λ m b e d. h (suc m) b e (λ z. d (omega arith))) in
    cc

members_of_completed : (ts : List Ty) (k : RecordKind) (n : ℕ) (ms : List Member) →
    members_kept ts (Some (completed_type k n ms)) ≡ Some (map (member_kept ts) ms)
members_of_completed ts records.Struct n ms = refl
members_of_completed ts records.Union n ms = refl

-- the table of a tag, and those of the others as before
abbrev pub Notes : (before after : List (ℕ × MemberTable)) → ℕ → MemberTable → Type 0
Notes before after n b = (j : ℕ) →
    lookup (nat_eq j) after ≡ (if nat_eq n j then Some b else lookup (nat_eq j) before)

-- what a table has of the members of a struct or union
pub record IsTable (file : List ℕ) (tags : List TagState) (kind : RecordKind) (ms : List Member) (parts : List Part)
    (b : MemberTable) : Type 0 where
  pub numbers : (name : List ℕ) → number_among (Some b) name ≡ first_named file 0 (map (λ m. m.name) ms) name
  pub starts : AreStarts tags kind parts b.offsets.items

same_places : (ts : List Ty) (parts : List Part) (ms : List Member) → HasParts ts parts ms →
    map (λ (m : Member). m.name) ms ≡ map (λ (m : Part). m.name.span) parts
same_places ts [] [] e = refl
same_places ts [] (m ∷ ms) e = absurd cc
same_places ts (r ∷ rs) [] e = absurd cc
same_places ts (r ∷ rs) (m ∷ ms) e =
    let a : part_seen r ≡ member_kept ts m = cc in
    let b : HasParts ts rs ms = cc in
    let x : r.name.span ≡ m.name = ap (λ (y : Span × Option Ty). y.0) a in
    let i = same_places ts rs ms b in
    cc

extents_completed : (tags : List TagState) (n : ℕ) (u t : TagState) → slice_get tags n ≡ Some u → u.extent ≡ None →
    ExtentsStay tags (set tags n t)
extents_completed tags n u t e o m x f = by_number (nat_eq n m) refl
  where
    by_number : (b : Bool) → nat_eq n m ≡ b → tag_extent (slice_get (set tags n t) m) ≡ Some x
    by_number true g =
        let none : tag_extent (slice_get tags m) ≡ None = rw (← eqb-true n m g, e) o in
        absurd (none-some x (sym none ∙ f))
    by_number false g =
        rw (slice_get-set_apart tags n m t (λ z. false≢true (sym g ∙ eq-eqb n m (sym z)))) f

-- where another state of the tables than before may be stale only if the size of the tag was known
abbrev pub IsFresh : Bool → Bool → TagState → Type 0
IsFresh before after u = after ≡ false → (before ≡ false) × (u.extent ≡ None)

members_noted : (file : List ℕ) (old stale : Bool) (before after : List (ℕ × MemberTable)) (ts : List Ty)
    (tags : List TagState) (n : ℕ) (b : MemberTable) (ms : List Member) (parts : List Part) (u t : TagState) →
    ShowsMembers file old before tags → Notes before after n b → slice_get tags n ≡ Some u → IsFresh old stale u →
    HasParts ts parts ms → t.members ≡ Some parts → IsTable file tags t.kind ms parts b →
    ShowsMembers file stale after (set tags n t)
members_noted file old stale before after ts tags n b ms parts u t h d e fresh has m is = record {
  numbers = λ j name. rw (d j) (numbers j name (nat_eq n j) refl);
  offsets = λ q j k z f. offsets q j k z (nat_eq n j) refl (rw (d j) at f);
  sizes = λ j w f g. elim (set_cases tags n t w j f) as (λ _. w.extent ≡ None) [
    | inl x ↦ h.sizes j w x g
    | inr x ↦ absurd (none-some parts (sym g ∙ ap (λ (y : TagState). y.members) (sym x.1) ∙ m))
  ];
  few = rw (length-set tags n t) h.few;
}
  where
    others : (j : ℕ) → nat_eq n j ≡ false → slice_get (set tags n t) j ≡ slice_get tags j
    others j f = slice_get-set_apart tags n j t (λ z. false≢true (sym f ∙ eq-eqb n j (sym z)))

    this : (j : ℕ) → nat_eq n j ≡ true → slice_get (set tags n t) j ≡ Some t
    this j f = rw (← eqb-true n j f) (slice_get-slice_set tags n u t e)

    numbers : (j : ℕ) (name : List ℕ) (c : Bool) → nat_eq n j ≡ c →
        number_among (if c then Some b else lookup (nat_eq j) before) name
        ≡ first_part file (parts_of (slice_get (set tags n t) j)) name
    numbers j name true f =
        rw (this j f, m) (is.numbers name ∙ ap (λ xs. first_named file 0 xs name) (same_places ts parts ms has))
    numbers j name false f = rw (others j f) (h.numbers j name)

    stay : stale ≡ false → ExtentsStay tags (set tags n t)
    stay q = extents_completed tags n u t e (fresh q).1

    by_tag : (q : stale ≡ false) (j k z : ℕ) (v : Option TagState) → slice_get tags j ≡ v →
        slice_get (starts_in tags v) k ≡ Some z → slice_get (starts_in (set tags n t) v) k ≡ Some z
    by_tag q j k z None f g = absurd (none-some z g)
    by_tag q j k z (Some v) f g = known_stays tags (set tags n t) (stay q) v.kind v.members k z g

    offsets : (q : stale ≡ false) (j k z : ℕ) (c : Bool) → nat_eq n j ≡ c →
        offset_among (if c then Some b else lookup (nat_eq j) before) k ≡ Some z →
        slice_get (starts_in (set tags n t) (slice_get (set tags n t) j)) k ≡ Some z
    offsets q j k z true f g =
        rw (this j f)
        (subst (λ o. slice_get (map (λ (x : ℕ × Ty). x.0) (known_places (set tags n t) t.kind o)) k ≡ Some z) (sym m)
        (record_stays tags (set tags n t) (stay q) t.kind parts k z (is.starts k z g)))
    offsets q j k z false f g =
        rw (others j f) (by_tag q j k z (slice_get tags j) refl (h.offsets (fresh q).0 j k z g))

completed_kind : (k : RecordKind) (n : ℕ) (ms : List Member) → IsOfKind k (Some (completed_type k n ms))
completed_kind records.Struct n ms = refl
completed_kind records.Union n ms = refl

kinds_completed : (cs : List CType) (is : List TagInfo) (n : ℕ) (i j : TagInfo) (ms : List Member) →
    slice_get is n ≡ Some i → j.kind ≡ i.kind → j.of ≡ i.of →
    slice_get (set cs i.of (completed_type i.kind n ms)) i.of ≡ Some (completed_type i.kind n ms) →
    ((m : ℕ) (y : TagInfo) → slice_get is m ≡ Some y → (m ≡ n → ⊥) → y.of ≡ i.of → ⊥) → AreOfKinds cs is →
    AreOfKinds (set cs i.of (completed_type i.kind n ms)) (set is n j)
kinds_completed cs is n i j ms e k o at other h m x f = by_number (nat_eq n m) refl
  where
    ds : List CType
    ds = set cs i.of (completed_type i.kind n ms)

    by_number : (b : Bool) → nat_eq n m ≡ b → IsOfKind x.kind (slice_get ds x.of)
    by_number true q =
        let z : j ≡ x =
        same_Some j x (sym (slice_get-slice_set is n i j e) ∙ ap (slice_get (set is n j)) (eqb-true n m q) ∙ f) in
        subst (λ (w : TagInfo). IsOfKind w.kind (slice_get ds w.of)) z (rw (k, o, at) (completed_kind i.kind n ms))
    by_number false q =
        let d : m ≡ n → ⊥ = λ z. false≢true (sym q ∙ eq-eqb n m (sym z)) in
        let y = sym (slice_get-set_apart is n m j d) ∙ f in
        rw (slice_get-set_apart cs i.of x.of (completed_type i.kind n ms) (other m x y d)) (h m x y)

pub stands_completed : (sc sd : Scopes) (v : Vec TagInfo) (p : Typed) (s : State) (n : ℕ) (i : TagInfo)
    (r : Option Room) (b : MemberTable) (ms : List Member) (parts : List Part) (u t : TagState) (stale : Bool) →
    Stands sc p s → slice_get sc.tags.items n ≡ Some i →
    sd ≡ record sc { named = sd.named } → Notes sc.named.entries sd.named.entries n b → slice_get s.tags n ≡ Some u →
    IsFresh sc.stale stale u → IsTable sc.file.now s.tags t.kind ms parts b →
    v.items ≡ set sc.tags.items n (record i { room = r }) → HasParts (types_of p.types) parts ms → t.kind ≡ i.kind →
    t.begun ≡ i.begun → t.members ≡ Some parts → t.extent ≡ option_map room_extent r →
    Stands (record sd { tags = v; stale = stale })
    (record p { types = set p.types i.of (completed_type i.kind n ms) }) (record s { tags = set s.tags n t })
stands_completed sc sd v p s n i r b ms parts u t stale h e o d w q y g has k l m x =
    let cs = p.types in
    let ds = set cs i.of (completed_type i.kind n ms) in
    let ts = types_of cs in
    let same : types_of ds ≡ ts = types_of-completed cs i.of n i.kind ms (tag_there sc p s n i h e) in
    let at : slice_get ds i.of ≡ Some (completed_type i.kind n ms) =
    let c = there_is cs i.of (omega (
      arith,
      slice_get_within ts i.of (Tagged n) (h.tag_types n i e),
      length-types_of cs,
    )) in
    slice_get-slice_set cs i.of c.0 (completed_type i.kind n ms) c.1 in
    let other = λ (j : ℕ) (y : TagInfo) (f : slice_get sc.tags.items j ≡ Some y) (d : j ≡ n → ⊥) (z : y.of ≡ i.of).
    d (numbers_same j n (same_Some _ _ (sym (h.tag_types j y f) ∙ ap (named ts) z ∙ h.tag_types n i e))) in
    let apart = λ (j : ℕ) (y : TagInfo) (f : slice_get sc.tags.items j ≡ Some y) (d : j ≡ n → ⊥).
    ap (λ o. record (tag_kept cs ts y) { members = members_kept ts o })
    (slice_get-set_apart cs i.of y.of (completed_type i.kind n ms) (other j y f d)) in
    let seen : tag_kept ds ts (record i { room = r }) ≡ tag_seen t =
    let a : members_kept ts (slice_get ds i.of) ≡ option_map (map part_seen) t.members =
    ap (members_kept ts) at ∙ members_of_completed ts i.kind n ms ∙ ap (λ y. Some y) (sym has)
    ∙ ap (option_map (map part_seen)) (sym m) in
    tag_parts i.kind t.kind i.begun t.begun _ _ _ _ (sym k) (sym l) a (sym x) in
    let le : length sc.tags.items ≤ length v.items =
    rw g (omega (arith, length-set sc.tags.items n (record i { room = r }))) in
    let all : Stands (record sc { named = sd.named; tags = v; stale = stale }) (record p { types = ds })
    (record s { tags = set s.tags n t }) = record {
      scopes = rw same (subst (λ y. ShowScopes y (length v.items) (reverse sc.scopes.items) s.scopes) (append-nil ts)
          (scopes_more ts [] (length sc.tags.items) (length v.items) (reverse sc.scopes.items) s.scopes le h.scopes));
      tags = rw (same, g)
          (map-set (tag_kept ds ts) sc.tags.items n (record i { room = r })
          ∙ set_map_apart (tag_kept ds ts) (tag_kept cs ts) sc.tags.items n
          (tag_kept ds ts (record i { room = r })) apart
          ∙ set_alike _ _ n _ _ h.tags seen
          ∙ sym (map-set tag_seen s.tags n t));
      tag_types = λ j y f. rw same
          (let w : slice_get (set sc.tags.items n (record i { room = r })) j ≡ Some y = rw (← g) f in
          elim (set_cases sc.tags.items n (record i { room = r }) y j w) as (λ _. named ts y.of ≡ Some (Tagged j)) [
            | inl z ↦ h.tag_types j y z
            | inr z ↦ rw (← z.1, z.0) (h.tag_types n i e)
          ]);
      kinds = rw g (kinds_completed cs sc.tags.items n i (record i { room = r }) ms e refl refl at other h.kinds);
      tagged = rw (same, g) (tagged_set ts sc.tags.items n i (record i { room = r }) e refl h.tagged);
      members = members_noted sc.file.now sc.stale stale sc.named.entries sd.named.entries ts s.tags n b ms parts u t
          h.members d w q has m y;
      objects = h.objects;
      globals = rw same h.globals;
      begun = h.begun;
      routines = rw same h.routines;
      locals = rw same h.locals;
      int = rw same h.int;
      linked = h.linked;
    } in
    subst (λ z. Stands (record z { tags = v; stale = stale }) (record p { types = ds })
    (record s { tags = set s.tags n t })) (sym o) all
  where
    numbers_same : (j n : ℕ) → Tagged j ≡ Tagged n → j ≡ n
    numbers_same j n e = cc

    set_alike : (xs ys : List SeenTag) (n : ℕ) (x y : SeenTag) → xs ≡ ys → x ≡ y → set xs n x ≡ set ys n y
    set_alike xs ys n x y d f = cc

    record_of : RecordKind → Bool → Option (List (Span × Option Ty)) → Option Extent → SeenTag
    record_of k b ms x = record { kind = k; begun = b; members = ms; extent = x }

    tag_parts : (j k : RecordKind) (b c : Bool) (ms ns : Option (List (Span × Option Ty))) (x y : Option Extent) →
        j ≡ k → b ≡ c → ms ≡ ns → x ≡ y → record_of j b ms x ≡ record_of k c ns y
    tag_parts j k b c ms ns x y d e f g = cc

pub completed_now : (sc sd : Scopes) (v : Vec TagInfo) (p : Typed) (s : State) (k : RecordKind) (n : ℕ) (i : TagInfo)
    (r : Option Room) (b : MemberTable) (ms : List Member) (parts : List Part) (place : Pos) (stale : Bool) →
    Stands sc p s → slice_get sc.tags.items n ≡ Some i → stale ≡ (sc.stale || is_some i.room) →
    sd ≡ record sc { named = sd.named } → Notes sc.named.entries sd.named.entries n b →
    IsTable sc.file.now s.tags i.kind ms parts b → kind_at s n k ≡ true →
    v.items ≡ set sc.tags.items n (record i { room = r }) →
    HasParts (types_of p.types) parts ms → record_extent s.tags i.kind parts ≡ option_map room_extent r →
    Given (record sd { tags = v; stale = stale })
    (record p { types = set p.types i.of (completed_type i.kind n ms) })
    (complete_tag k n parts place s) (λ t a. Unit {0})
completed_now sc sd v p s k n i r b ms parts place stale h e q o d is kk g has x =
    let t = seen_at (tag_kept p.types (types_of p.types)) tag_seen sc.tags.items s.tags n i h.tags e in
    let j : i.kind ≡ k = kind_is sc p s n i k h e kk in
    let y : record_extent s.tags k parts ≡ option_map room_extent r =
    subst (λ z. record_extent s.tags z parts ≡ option_map room_extent r) j x in
    let f : nat_le (extent_size (record_extent s.tags k parts)) size_limit ≡ true = room_passes _ r y in
    let u = completed s.tags k parts t.0 in
    let c : changed_at (completed s.tags k parts) s.tags n ≡ set s.tags n u =
    ap (λ o. with_changed (completed s.tags k parts) o s.tags n) t.1 in
    record {
      value = tt;
      state = record s { tags = set s.tags n u };
      is = rw f (ap (λ ts. Ok (tt, record s { tags = ts })) c);
      stands = stands_completed sc sd v p s n i r b ms parts t.0 u stale h e o d t.1
          (λ f. fresh sc.stale i.room (sym q ∙ f) (ap (λ (z : SeenTag). z.extent) t.2))
          (subst (λ z. IsTable sc.file.now s.tags z ms parts b) (ap (λ (z : SeenTag). z.kind) t.2) is) g has
          (sym (ap (λ (z : SeenTag). z.kind) t.2))
          (sym (ap (λ (z : SeenTag). z.begun) t.2)) refl y;
      fits = tt;
    }
  where
    fresh : (b : Bool) (r : Option Room) {x : Option Extent} → (b || is_some r) ≡ false → option_map room_extent r ≡ x →
        (b ≡ false) × (x ≡ None)
    fresh false None e f = (refl, sym f)
    fresh false (Some r) e f = absurd (false≢true (sym e))
    fresh true r e f = absurd (false≢true (sym e))

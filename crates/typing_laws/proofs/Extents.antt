-- Sizes of types over the tags so far, and that they are those of the program's tags.
use Rattle.std.proofs.Common.{◌≡◌, ℕ, zero, suc, ◌+◌, List, [], ◌∷◌, Option, Some, None, refl, sym, ap, subst, ◌∙◌}
use Rattle.std.proofs.Common.{arith}
use Rattle.std.specs.Prelude.{slice_get, map, option_map}
use Rattle.std.proofs.lemmas.Option.{none-some, same_Some, slice_get-map}
use Rattle.ck_base.specs.declared.positions.Span.{Span}
use Rattle.c_tree.specs.declared.syntax.RecordKind.{RecordKind}
use Rattle.c_tree.specs.declared.syntax.RecordKind.TheVariants.{Struct, Union}
use Rattle.c_tree.specs.Layout.{Extent, with_extent, behind, beside, no_members, whole, times}
use Rattle.c_tree.specs.Types.{Ty, Void, Int, Cap, Pointer, Array, Tagged, Function, Const}
use Rattle.c_tree.specs.Terms.{Tag}
use Rattle.c_tree.specs.Scopes.{Part, TagState, type_extent, tag_extent}
use Rattle.c_tree.specs.Declarators.{members_extent, record_extent}
use Rattle.c_tree.specs.TreeLayout.{tree_members, record_level, members_level, tag_level, type_level, tree_extent}
use Rattle.c_tree.specs.Programs.{member_of_tag, members_of_tag, tag_of}
use Rattle.typing_laws.proofs.Facts.{PartOk, TagOk, TagsGrow}
use Rattle.typing_laws.proofs.Growing.{extent_kept, type_kept, complete_kept}

-- ---- members

abbrev pub AllParts : List TagState → List Part → Type 0
AllParts ts [] = Unit {0}
AllParts ts (m ∷ ms) = PartOk ts m × AllParts ts ms

pub part_kept : (ts us : List TagState) → TagsGrow ts us → (m : Part) → PartOk ts m → PartOk us m
part_kept ts us g m h = record {
  type = type_kept ts us g m.of h.type;
  complete = complete_kept ts us g m.of h.complete;
}

pub parts_kept : (ts us : List TagState) → TagsGrow ts us → (ms : List Part) → AllParts ts ms → AllParts us ms
parts_kept ts us g [] h = tt
parts_kept ts us g (m ∷ ms) h = (part_kept ts us g m h.0, parts_kept ts us g ms h.1)

pub part_there : (ts : List TagState) (ms : List Part) (k : ℕ) (m : Part) → AllParts ts ms → slice_get ms k ≡ Some m →
    PartOk ts m
part_there ts [] k m h e = absurd cc
part_there ts (n ∷ ms) zero m h e = subst (PartOk ts) (same_Some n m e) h.0
part_there ts (n ∷ ms) (suc k) m h e = part_there ts ms k m h.1 e

-- all members have an extent together
members_known : (ts : List TagState) (place : Extent → Extent → Extent) (ms : List Part) (x : Extent) → AllParts ts ms →
    (y : Extent) × (members_extent ts place ms x ≡ Some y)
members_known ts place [] x h = (_, refl)
members_known ts place (m ∷ ms) x h =
    let c = h.0.complete in
    let r = members_known ts place ms (place c.0 x) h.1 in
    (r.0, rw c.1 r.1)

pub record_known : (ts : List TagState) (k : RecordKind) (ms : List Part) → AllParts ts ms →
    (y : Extent) × (record_extent ts k ms ≡ Some y)
record_known ts Struct ms h = members_known ts behind ms no_members h
record_known ts Union ms h = members_known ts beside ms no_members h

with_kept : {A : Type 0} (o r : Option Extent) (f g : Extent → Option A) (y : A) →
    ((z : Extent) → o ≡ Some z → r ≡ Some z) → ((z : Extent) → f z ≡ Some y → g z ≡ Some y) → with_extent o f ≡ Some y →
    with_extent r g ≡ Some y
with_kept None r f g y h k e = absurd (none-some y e)
with_kept (Some z) r f g y h k e = rw (h z refl) (k z e)

members_extent_kept : (ts us : List TagState) → TagsGrow ts us →
    (place : Extent → Extent → Extent) (ms : List Part) (x y : Extent) → members_extent ts place ms x ≡ Some y →
    members_extent us place ms x ≡ Some y
members_extent_kept ts us g place [] x y e = e
members_extent_kept ts us g place (m ∷ ms) x y e =
    with_kept (type_extent ts m.of) (type_extent us m.of) (λ z. members_extent ts place ms (place z x))
    (λ z. members_extent us place ms (place z x)) y
    (λ z i. extent_kept ts us g m.of z i) (λ z i. members_extent_kept ts us g place ms (place z x) y i) e

pub record_kept : (ts us : List TagState) → TagsGrow ts us → (k : RecordKind) (ms : List Part) (y : Extent) →
    record_extent ts k ms ≡ Some y → record_extent us k ms ≡ Some y
record_kept ts us g Struct ms y e = members_extent_kept ts us g behind ms no_members y e
record_kept ts us g Union ms y e = members_extent_kept ts us g beside ms no_members y e

-- ---- the tree's extents, which know more at more levels and over more tags

tree_members_more : (place : Extent → Extent → Extent) (f g : Ty → Option Extent) →
    ((t : Ty) (x : Extent) → f t ≡ Some x → g t ≡ Some x) → (ms : List (Span × Ty)) (x y : Extent) →
    tree_members place f ms x ≡ Some y → tree_members place g ms x ≡ Some y
tree_members_more place f g h [] x y e = e
tree_members_more place f g h (m ∷ ms) x y e =
    with_kept (f m.1) (g m.1) (λ z. tree_members place f ms (place z x)) (λ z. tree_members place g ms (place z x)) y
    (h m.1) (λ z i. tree_members_more place f g h ms (place z x) y i) e

pub record_more : (k : RecordKind) (f g : Ty → Option Extent) → ((t : Ty) (x : Extent) → f t ≡ Some x → g t ≡ Some x) →
    (ms : List (Span × Ty)) (y : Extent) → record_level k f ms ≡ Some y → record_level k g ms ≡ Some y
record_more Struct f g h ms y e =
    with_kept (tree_members behind f ms no_members) (tree_members behind g ms no_members) whole whole y
    (λ z i. tree_members_more behind f g h ms no_members z i) (λ z i. i) e
record_more Union f g h ms y e =
    with_kept (tree_members beside f ms no_members) (tree_members beside g ms no_members) whole whole y
    (λ z i. tree_members_more beside f g h ms no_members z i) (λ z i. i) e

-- the tags of a list of tags that has grown: members stay
abbrev TreesGrow : List Tag → List Tag → Type 0
TreesGrow ts us = (k : ℕ) (t : Tag) (ms : List (Span × Ty)) → slice_get ts k ≡ Some t → t.members ≡ Some ms →
    (u : Tag) × (slice_get us k ≡ Some u) × (u.kind ≡ t.kind) × (u.members ≡ Some ms)

members_more : (o : Option (List (Span × Ty))) (t u : Tag) (f g : Ty → Option Extent) (y : Extent) →
    ((t : Ty) (x : Extent) → f t ≡ Some x → g t ≡ Some x) → t.members ≡ o →
    ((ms : List (Span × Ty)) → t.members ≡ Some ms → (u.kind ≡ t.kind) × (u.members ≡ Some ms)) →
    members_level o t.kind f ≡ Some y → members_level u.members u.kind g ≡ Some y
members_more None t u f g y h i k e = absurd (none-some y e)
members_more (Some ms) t u f g y h i k e = let q = k ms i in rw (q.1, q.0) (record_more t.kind f g h ms y e)

tag_more : (ts us : List Tag) → TreesGrow ts us → (o : Option Tag) (n : ℕ) (f g : Ty → Option Extent) (y : Extent) →
    ((t : Ty) (x : Extent) → f t ≡ Some x → g t ≡ Some x) → slice_get ts n ≡ o → tag_level o f ≡ Some y →
    tag_level (slice_get us n) g ≡ Some y
tag_more ts us q None n f g y h i e = absurd (none-some y e)
tag_more ts us q (Some t) n f g y h i e = by_members t.members refl e
  where
    by_members : (o : Option (List (Span × Ty))) → t.members ≡ o → members_level o t.kind f ≡ Some y →
        tag_level (slice_get us n) g ≡ Some y
    by_members None j e = absurd (none-some y e)
    by_members (Some ms) j e = let u = q n t ms i j in rw (u.1, u.3, u.2) (record_more t.kind f g h ms y e)

level_more : (ts us : List Tag) → TreesGrow ts us → (t : Ty) (f g : Ty → Option Extent) (y : Extent) →
    ((t : Ty) (x : Extent) → f t ≡ Some x → g t ≡ Some x) → type_level ts t f ≡ Some y → type_level us t g ≡ Some y
level_more ts us q Void f g y h e = e
level_more ts us q (Int k n) f g y h e = e
level_more ts us q (Cap s) f g y h e = e
level_more ts us q (Pointer t) f g y h e = e
level_more ts us q (Array t n) f g y h e = with_kept (f t) (g t) (times n) (times n) y (h t) (λ z i. i) e
level_more ts us q (Tagged n) f g y h e = tag_more ts us q (slice_get ts n) n f g y h refl e
level_more ts us q (Function r ps) f g y h e = e
level_more ts us q (Const t) f g y h e = h t y e

trees_self : (ts : List Tag) → TreesGrow ts ts
trees_self ts k t ms e i = (t, e, refl, i)

tree_next : (d : ℕ) (ts : List Tag) (t : Ty) (y : Extent) → tree_extent d ts t ≡ Some y →
    tree_extent (suc d) ts t ≡ Some y
unfolding tree_extent
tree_next zero ts t y e = absurd (none-some y e)
tree_next (suc d) ts t y e =
    level_more ts ts (trees_self ts) t (tree_extent d ts) (tree_extent (suc d) ts) y (λ u x i. tree_next d ts u x i) e

pub tree_up : (d k : ℕ) (ts : List Tag) (t : Ty) (y : Extent) → tree_extent d ts t ≡ Some y →
    tree_extent (d + k) ts t ≡ Some y
tree_up d zero ts t y e = let z : d + 0 ≡ d = omega arith in rw z e
tree_up d (suc k) ts t y e =
    let z : d + suc k ≡ suc (d + k) = omega arith in rw z (tree_next (d + k) ts t y (tree_up d k ts t y e))

tree_grown : (d : ℕ) (ts us : List Tag) → TreesGrow ts us → (t : Ty) (y : Extent) → tree_extent d ts t ≡ Some y →
    tree_extent d us t ≡ Some y
unfolding tree_extent
tree_grown zero ts us q t y e = absurd (none-some y e)
tree_grown (suc d) ts us q t y e =
    level_more ts us q t (tree_extent d ts) (tree_extent d us) y (λ u x i. tree_grown d ts us q u x i) e

tags_there : (ts : List TagState) (k : ℕ) (t : Tag) → slice_get (map tag_of ts) k ≡ Some t →
    (u : TagState) × (slice_get ts k ≡ Some u) × (tag_of u ≡ t)
tags_there [] k t e = absurd cc
tags_there (u ∷ us) zero t e = (u, refl, same_Some (tag_of u) t e)
tags_there (u ∷ us) (suc k) t e = tags_there us k t e

pub tags_mapped : (ts : List TagState) (k : ℕ) (u : TagState) → slice_get ts k ≡ Some u →
    slice_get (map tag_of ts) k ≡ Some (tag_of u)
tags_mapped ts k u e = slice_get-map tag_of ts k ∙ ap (option_map tag_of) e

known_members : (o : Option (List Part)) (ms : List (Span × Ty)) → members_of_tag o ≡ Some ms →
    (ps : List Part) × (o ≡ Some ps)
known_members None ms e = absurd (none-some ms e)
known_members (Some ps) ms e = (ps, refl)

trees_grow : (ts us : List TagState) → TagsGrow ts us → TreesGrow (map tag_of ts) (map tag_of us)
trees_grow ts us g k t ms e i =
    let a = tags_there ts k t e in
    let m = known_members a.0.members ms (ap (λ (t : Tag). t.members) a.2 ∙ i) in
    let u = g k a.0 a.1 in
    let same = u.2.parts m.0 m.1 in (
      tag_of u.0,
      tags_mapped us k u.0 u.1,
      ap (λ (w : TagState). (tag_of w).kind) same ∙ ap (λ (t : Tag). t.kind) a.2,
      ap (λ (w : TagState). (tag_of w).members) same ∙ ap (λ (t : Tag). t.members) a.2 ∙ i,
    )

pub tree_kept : (d : ℕ) (ts us : List TagState) → TagsGrow ts us → (t : Ty) (y : Extent) →
    tree_extent d (map tag_of ts) t ≡ Some y → tree_extent d (map tag_of us) t ≡ Some y
tree_kept d ts us g t y e = tree_grown d (map tag_of ts) (map tag_of us) (trees_grow ts us g) t y e

-- ---- the extents of the state are those of the tree

abbrev pub AllTags : List TagState → Type 0
AllTags ts = (k : ℕ) (t : TagState) → slice_get ts k ≡ Some t → TagOk ts k t

abbrev Deep : List TagState → Ty → Extent → Type 0
Deep ts t x = (d : ℕ) × (tree_extent d (map tag_of ts) t ≡ Some x)

tag_deep : (ts : List TagState) → AllTags ts → (n : ℕ) (o : Option TagState) (x : Extent) → slice_get ts n ≡ o →
    tag_extent o ≡ Some x → Deep ts (Tagged n) x
tag_deep ts h n None x i e = absurd (none-some x e)
tag_deep ts h n (Some t) x i e = (h n t i).laid x e

array_deep : (ts : List TagState) (t : Ty) (n : ℕ) (o : Option Extent) (x : Extent) → type_extent ts t ≡ o →
    ((y : Extent) → o ≡ Some y → Deep ts t y) → with_extent o (times n) ≡ Some x → Deep ts (Array t n) x
unfolding tree_extent
array_deep ts t n None x i f e = absurd (none-some x e)
array_deep ts t n (Some y) x i f e = let d = f y refl in (suc d.0, rw d.1 e)

pub type_deep : (ts : List TagState) → AllTags ts → (t : Ty) (x : Extent) → type_extent ts t ≡ Some x → Deep ts t x
unfolding tree_extent
type_deep ts h Void x e = absurd (none-some x e)
type_deep ts h (Int k n) x e = (1, e)
type_deep ts h (Cap s) x e = (1, e)
type_deep ts h (Pointer t) x e = (1, e)
type_deep ts h (Array t n) x e = array_deep ts t n (type_extent ts t) x refl (λ y i. type_deep ts h t y i) e
type_deep ts h (Tagged n) x e = tag_deep ts h n (slice_get ts n) x refl e
type_deep ts h (Function r ps) x e = absurd (none-some x e)
type_deep ts h (Const t) x e = let d = type_deep ts h t x e in (suc d.0, d.1)

-- the members of a tag at one number of levels
MembersDeep : List TagState → (Extent → Extent → Extent) → List Part → Extent → Extent → Type 0
MembersDeep ts place ms x y =
    (d : ℕ) × ((k : ℕ) → with_extent (tree_members place (tree_extent (d + k) (map tag_of ts)) (map member_of_tag ms) x)
    whole ≡ Some y)

one_deeper : (ts : List TagState) (place : Extent → Extent → Extent) (m : Part) (ms : List Part) (x y : Extent)
    (o : Option Extent) → ((z : Extent) → o ≡ Some z → Deep ts m.of z) →
    ((z : Extent) → members_extent ts place ms (place z x) ≡ Some y → MembersDeep ts place ms (place z x) y) →
    with_extent o (λ z. members_extent ts place ms (place z x)) ≡ Some y → MembersDeep ts place (m ∷ ms) x y
unfolding MembersDeep
one_deeper ts place m ms x y None f g e = absurd (none-some y e)
one_deeper ts place m ms x y (Some z) f g e =
    let a = f z refl in
    let b = g z e in (
      a.0 + b.0,
      λ k.
          let i : a.0 + b.0 + k ≡ a.0 + (b.0 + k) = omega arith in
          let j : a.0 + b.0 + k ≡ b.0 + (a.0 + k) = omega arith in
          let q : tree_extent (a.0 + b.0 + k) (map tag_of ts) m.of ≡ Some z =
          subst (λ n. tree_extent n (map tag_of ts) m.of ≡ Some z) (sym i)
          (tree_up a.0 (b.0 + k) (map tag_of ts) m.of z a.1) in
          rw q (subst (λ n. with_extent (tree_members place (tree_extent n (map tag_of ts)) (map member_of_tag ms)
          (place z x)) whole ≡ Some y) (sym j) (b.1 (a.0 + k))),
    )

members_deep : (ts : List TagState) → AllTags ts → (place : Extent → Extent → Extent) (ms : List Part) (x y : Extent) →
    members_extent ts place ms x ≡ Some y → MembersDeep ts place ms x y
unfolding MembersDeep
members_deep ts h place [] x y e = (0, λ k. e)
members_deep ts h place (m ∷ ms) x y e =
    one_deeper ts place m ms x y (type_extent ts m.of) (λ z i. type_deep ts h m.of z i)
    (λ z i. members_deep ts h place ms (place z x) y i) e

pub record_deep : (ts : List TagState) → AllTags ts → (k : RecordKind) (ms : List Part) (y : Extent) →
    record_extent ts k ms ≡ Some y →
    (d : ℕ) × (record_level k (tree_extent d (map tag_of ts)) (map member_of_tag ms) ≡ Some y)
unfolding MembersDeep
record_deep ts h Struct ms y e =
    let d = members_deep ts h behind ms no_members y e in (
      d.0,
      subst (λ n. with_extent (tree_members behind (tree_extent n (map tag_of ts))
          (map member_of_tag ms) no_members) whole ≡ Some y) (let z : d.0 + 0 ≡ d.0 = omega arith in z) (d.1 0),
    )
record_deep ts h Union ms y e =
    let d = members_deep ts h beside ms no_members y e in (
      d.0,
      subst (λ n. with_extent (tree_members beside (tree_extent n (map tag_of ts))
          (map member_of_tag ms) no_members) whole ≡ Some y) (let z : d.0 + 0 ≡ d.0 = omega arith in z) (d.1 0),
    )

-- what holds of a tag stays while the tags grow
pub tag_ok_kept : (ts us : List TagState) → TagsGrow ts us → (n : ℕ) (t : TagState) → TagOk ts n t → TagOk us n t
tag_ok_kept ts us g n t h = record {
  unknown = h.unknown;
  known = λ ms e. let k = h.known ms e in (k.0, k.1, k.2, record_kept ts us g t.kind ms k.1 k.3, k.4);
  parts = λ ms k m e i. part_kept ts us g m (h.parts ms k m e i);
  laid = λ x e. let d = h.laid x e in (d.0, tree_kept d.0 ts us g (Tagged n) x d.1);
}

-- Types as they are run (C11 6.2.5): what stays of a type where structs and unions go by pointers.
use Rattle.std.proofs.Common.{◌≡◌, ℕ, zero, suc, Bool, true, false, List, [], ◌∷◌, Option, Some, None, refl, sym, ap}
use Rattle.std.proofs.Common.{subst, ◌∙◌}
use Rattle.std.specs.Prelude.{slice_get, map, option_map, not, ◌&&◌, ◌||◌, ◌==◌, if◌then◌else◌}
use Rattle.std.proofs.lemmas.Bool.{false≢true}
use Rattle.std.proofs.lemmas.List.{length-map}
use Rattle.std.proofs.lemmas.Option.{slice_get-map}
use Rattle.ck_base.specs.declared.positions.Span.{Span}
use Rattle.c_tree.specs.declared.syntax.RecordKind.{RecordKind}
use Rattle.c_tree.specs.declared.syntax.RecordKind.TheVariants.{Struct, Union}
use Rattle.c_tree.specs.Layout.{Extent, with_extent, behind, beside, no_members, whole, times}
use Rattle.c_tree.specs.Types.{Ty, Void, Int, Cap, Pointer, Array, Tagged, Function, Const, Tys, no_types, also, bare}
use Rattle.c_tree.specs.Types.{qualified, is_const, is_integer, is_pointer, is_scalar, is_void, is_array, is_function}
use Rattle.c_tree.specs.Types.{is_tagged, is_capability}
use Rattle.c_tree.specs.Terms.{Tag}
use Rattle.c_tree.specs.Scopes.{Part, TagState, type_extent, tag_extent}
use Rattle.c_tree.specs.Expressions.{as_qualified}
use Rattle.c_tree.specs.Declarators.{is_given, members_extent, record_extent}
use Rattle.c_tree.specs.TreeLayout.{tree_members, record_level, members_level, tag_level, type_level, tree_extent}
use Rattle.c_tree.specs.Programs.{member_of_tag, members_of_tag, tag_of}
use Rattle.c_tree.specs.Passed.{by_pointer, passed, all_passed, passed_member, passed_members, passed_tag}
use Rattle.typing_laws.proofs.Facts.{Complete, Sized, may_be_const, TypeOk, TypesOk, IsValue, scalar, nothing, tagged}
use Rattle.typing_laws.proofs.Facts.{PointsTo, PartOk, TagOk}
use Rattle.typing_laws.proofs.Agreeing.{refines}
use Rattle.typing_laws.proofs.Pointers.{passed_result, passed_takes, passed_function, passed_agree}
use Rattle.typing_laws.proofs.Scalars.{branched, integer_cases, bare_ok}
use Rattle.typing_laws.proofs.Wholes.{mapped_from}

-- ---- kinds of types

-- a function is still one
pub function_cases : (P : Ty → Type 0) → ((r : Ty) (ps : Tys) → P (Function r ps)) → (r : Ty) (ps : Tys) →
    P (passed (Function r ps))
function_cases P f r ps = subst P (sym (passed_function r ps)) (f (passed_result r) (passed_takes r ps))

pub bare_passed : (t : Ty) → bare (passed t) ≡ passed (bare t)
bare_passed (Function r ps) = function_cases (λ u. bare u ≡ u) (λ q qs. refl) r ps
bare_passed t = refl

pub tagged_passed : (t : Ty) → is_tagged (passed t) ≡ is_tagged t
tagged_passed (Function r ps) = ap is_tagged (passed_function r ps)
tagged_passed t = refl

pub scalar_passed : (t : Ty) → is_scalar (passed t) ≡ is_scalar t
scalar_passed (Function r ps) = ap is_scalar (passed_function r ps)
scalar_passed t = refl

pub pointer_passed : (t : Ty) → is_pointer (passed t) ≡ is_pointer t
pointer_passed (Function r ps) = ap is_pointer (passed_function r ps)
pointer_passed t = refl

pub integer_passed : (t : Ty) → is_integer (passed t) ≡ is_integer t
integer_passed (Function r ps) = ap is_integer (passed_function r ps)
integer_passed t = refl

pub capability_passed : (t : Ty) → is_capability (passed t) ≡ is_capability t
capability_passed (Function r ps) = ap is_capability (passed_function r ps)
capability_passed t = refl

pub void_passed : (t : Ty) → is_void (passed t) ≡ is_void t
void_passed (Function r ps) = ap is_void (passed_function r ps)
void_passed t = refl

pub functions_passed : (t : Ty) → is_function (passed t) ≡ is_function t
functions_passed (Function r ps) = ap is_function (passed_function r ps)
functions_passed t = refl

pub array_passed : (t : Ty) → is_array (passed t) ≡ is_array t
array_passed (Function r ps) = ap is_array (passed_function r ps)
array_passed t = refl

pub const_passed : (t : Ty) → is_const (passed t) ≡ is_const t
const_passed (Function r ps) = ap is_const (passed_function r ps)
const_passed (Array t n) = const_passed t
const_passed t = refl

may_passed : (t : Ty) → may_be_const (passed t) ≡ may_be_const t
may_passed (Function r ps) = ap may_be_const (passed_function r ps)
may_passed t = refl

pub passed_integer : (t : Ty) → is_integer t ≡ true → passed t ≡ t
passed_integer t e = integer_cases (λ t. passed t ≡ t) (λ k n. refl) (λ s. refl) t e

pub passed_tagged : (t : Ty) → is_tagged t ≡ true → passed t ≡ t
passed_tagged (Tagged n) e = refl
passed_tagged t e = absurd (false≢true e)

-- ---- types that know more

pub passed_refines : (s t : Ty) → refines s t ≡ true → refines (passed s) (passed t) ≡ true
passed_refines s t e = passed_agree (λ m n. m == n || m == 0) s t e

-- ---- qualifiers

qualified_passed : (t : Ty) → qualified (passed t) ≡ passed (qualified t)
qualified_passed (Function r ps) = function_cases (λ u. qualified u ≡ u) (λ q qs. refl) r ps
qualified_passed (Array t n) = ap (λ u. Array u n) (qualified_passed t)
qualified_passed t = refl

pub as_qualified_passed : (s t : Ty) → as_qualified (passed s) (passed t) ≡ passed (as_qualified s t)
as_qualified_passed s t =
    ap (λ b. if b then qualified (passed t) else passed t) (const_passed s)
    ∙ ap (λ u. if is_const s then u else passed t) (qualified_passed t) ∙ by (is_const s)
  where
    by : (b : Bool) → (if b then passed (qualified t) else passed t) ≡ passed (if b then qualified t else t)
    by true = refl
    by false = refl

-- ---- the structs and unions

abbrev pub passed_part : Part → Part
passed_part m = record m { of = passed m.of }

abbrev pub passed_parts : Option (List Part) → Option (List Part)
passed_parts None = None
passed_parts (Some ms) = Some (map passed_part ms)

abbrev pub passed_record : TagState → TagState
passed_record t = record t { members = passed_parts t.members }

abbrev pub passed_records : List TagState → List TagState
passed_records ts = map passed_record ts

pub record_passed : (ts : List TagState) (k : ℕ) (t : TagState) → slice_get ts k ≡ Some t →
    slice_get (passed_records ts) k ≡ Some (passed_record t)
record_passed ts k t e = slice_get-map passed_record ts k ∙ ap (option_map passed_record) e

same_extents : (o : Option TagState) → tag_extent (option_map passed_record o) ≡ tag_extent o
same_extents None = refl
same_extents (Some t) = refl

-- no size changes
pub extent_passed : (ts : List TagState) (t : Ty) → type_extent (passed_records ts) (passed t) ≡ type_extent ts t
extent_passed ts Void = refl
extent_passed ts (Int k n) = refl
extent_passed ts (Cap s) = refl
extent_passed ts (Pointer t) = refl
extent_passed ts (Array t n) = ap (λ o. with_extent o (times n)) (extent_passed ts t)
extent_passed ts (Tagged n) = ap tag_extent (slice_get-map passed_record ts n) ∙ same_extents (slice_get ts n)
extent_passed ts (Function r ps) = function_cases (λ u. type_extent (passed_records ts) u ≡ None) (λ q qs. refl) r ps
extent_passed ts (Const t) = extent_passed ts t

pub complete_passed : (ts : List TagState) (t : Ty) → Complete ts t → Complete (passed_records ts) (passed t)
complete_passed ts t c = (c.0, extent_passed ts t ∙ c.1)

pub sized_passed : (ts : List TagState) (t : Ty) → Sized ts t → Sized (passed_records ts) (passed t)
sized_passed ts t c = (c.0, extent_passed ts t ∙ c.1, c.2)

pub points_passed : (ts : List TagState) (t : Ty) → PointsTo ts t → PointsTo (passed_records ts) (passed t)
points_passed ts t h = (passed h.0, ap passed h.1, sized_passed ts h.0 h.2)

pub value_passed : (ts : List TagState) (t : Ty) → IsValue ts t → IsValue (passed_records ts) (passed t)
value_passed ts t (scalar e) = scalar (scalar_passed t ∙ e)
value_passed ts t (nothing e) = nothing (ap passed e)
value_passed ts t (tagged n e c) = tagged n (ap passed e) (complete_passed ts t c)

-- ---- types that declarators make

tagged_ok : (ts : List TagState) (t : Ty) → is_tagged t ≡ true → TypeOk ts t → TypeOk (passed_records ts) t
tagged_ok ts (Tagged n) e h = rw length-map h
tagged_ok ts t e h = absurd (false≢true e)

given_passed : (t : Ty) → is_given t ≡ true → is_given (passed t) ≡ true
given_passed t e = ap (λ b. not b && not (is_function (passed t))) (array_passed t)
    ∙ ap (λ b. not (is_array t) && not b) (functions_passed t) ∙ e

mutual
  pub type_passed : (ts : List TagState) (t : Ty) → TypeOk ts t → TypeOk (passed_records ts) (passed t)
  type_passed ts Void h = tt
  type_passed ts (Int k n) h = tt
  type_passed ts (Cap s) h = tt
  type_passed ts (Pointer t) h = type_passed ts t h
  type_passed ts (Array t n) h = (type_passed ts t h.0, h.1, extent_passed ts t ∙ h.2, h.3)
  type_passed ts (Tagged n) h = rw length-map h
  type_passed ts (Function r ps) h =
      branched (TypeOk (passed_records ts)) (by_pointer r) (Function Void (also (Pointer (bare r)) (all_passed ps)))
      (Function (passed r) (all_passed ps))
      (λ e. (tt, refl, (tagged_ok ts (bare r) e (bare_ok ts r h.0), refl, types_passed ts ps h.2)))
      (λ e. (type_passed ts r h.0, given_passed r h.1, types_passed ts ps h.2))
  type_passed ts (Const t) h = (type_passed ts t h.0, may_passed t ∙ h.1)

  pub types_passed : (ts : List TagState) (ps : Tys) → TypesOk ts ps → TypesOk (passed_records ts) (all_passed ps)
  types_passed ts no_types h = tt
  types_passed ts (also t ps) h =
      let u = branched (λ u. TypeOk (passed_records ts) u × (bare u ≡ u)) (by_pointer t) (Pointer (bare t)) (passed t)
      (λ e. (tagged_ok ts (bare t) e (bare_ok ts t h.0), refl))
      (λ e. (type_passed ts t h.0, bare_passed t ∙ ap passed h.1)) in
      (u.0, u.1, types_passed ts ps h.2)

-- ---- layouts

with_same : {A : Type 0} (o : Option Extent) (f g : Extent → Option A) → ((x : Extent) → f x ≡ g x) →
    with_extent o f ≡ with_extent o g
with_same None f g h = refl
with_same (Some x) f g h = h x

members_passed : (ts : List TagState) (place : Extent → Extent → Extent) (ms : List Part) (x : Extent) →
    members_extent (passed_records ts) place (map passed_part ms) x ≡ members_extent ts place ms x
members_passed ts place [] x = refl
members_passed ts place (m ∷ ms) x =
    ap (λ o. with_extent o (λ y. members_extent (passed_records ts) place (map passed_part ms) (place y x)))
    (extent_passed ts m.of)
    ∙ with_same (type_extent ts m.of) (λ y. members_extent (passed_records ts) place (map passed_part ms) (place y x))
    (λ y. members_extent ts place ms (place y x)) (λ y. members_passed ts place ms (place y x))

layout_passed : (ts : List TagState) (k : RecordKind) (ms : List Part) →
    record_extent (passed_records ts) k (map passed_part ms) ≡ record_extent ts k ms
layout_passed ts Struct ms = members_passed ts behind ms no_members
layout_passed ts Union ms = members_passed ts beside ms no_members

-- ---- the same of the program's structs and unions

module _ (go now : Ty → Option Extent) (h : (t : Ty) → now (passed t) ≡ go t) where
  tree_members_passed : (place : Extent → Extent → Extent) (ms : List (Span × Ty)) (x : Extent) →
      tree_members place now (map passed_member ms) x ≡ tree_members place go ms x
  tree_members_passed place [] x = refl
  tree_members_passed place (m ∷ ms) x =
      ap (λ o. with_extent o (λ y. tree_members place now (map passed_member ms) (place y x))) (h m.1)
      ∙ with_same (go m.1) (λ y. tree_members place now (map passed_member ms) (place y x))
      (λ y. tree_members place go ms (place y x)) (λ y. tree_members_passed place ms (place y x))

  record_level_passed : (k : RecordKind) (ms : List (Span × Ty)) →
      record_level k now (map passed_member ms) ≡ record_level k go ms
  record_level_passed Struct ms = ap (λ o. with_extent o whole) (tree_members_passed behind ms no_members)
  record_level_passed Union ms = ap (λ o. with_extent o whole) (tree_members_passed beside ms no_members)

  members_level_passed : (o : Option (List (Span × Ty))) (k : RecordKind) →
      members_level (passed_members o) k now ≡ members_level o k go
  members_level_passed None k = refl
  members_level_passed (Some ms) k = record_level_passed k ms

  tag_level_passed : (o : Option Tag) → tag_level (option_map passed_tag o) now ≡ tag_level o go
  tag_level_passed None = refl
  tag_level_passed (Some t) = members_level_passed t.members t.kind

  type_level_passed : (ts : List Tag) (t : Ty) → type_level (map passed_tag ts) (passed t) now ≡ type_level ts t go
  type_level_passed ts Void = refl
  type_level_passed ts (Int k n) = refl
  type_level_passed ts (Cap s) = refl
  type_level_passed ts (Pointer t) = refl
  type_level_passed ts (Array t n) = ap (λ o. with_extent o (times n)) (h t)
  type_level_passed ts (Tagged k) =
      ap (λ o. tag_level o now) (slice_get-map passed_tag ts k) ∙ tag_level_passed (slice_get ts k)
  type_level_passed ts (Function r ps) =
      function_cases (λ u. type_level (map passed_tag ts) u now ≡ None) (λ q qs. refl) r ps
  type_level_passed ts (Const t) = h t

tree_passed : (d : ℕ) (ts : List Tag) (t : Ty) → tree_extent d (map passed_tag ts) (passed t) ≡ tree_extent d ts t
unfolding tree_extent
tree_passed zero ts t = refl
tree_passed (suc d) ts t =
    type_level_passed (tree_extent d ts) (tree_extent d (map passed_tag ts)) (λ u. tree_passed d ts u) ts t

-- ---- the tags of the program

parts_shown : (ms : List Part) → map member_of_tag (map passed_part ms) ≡ map passed_member (map member_of_tag ms)
parts_shown [] = refl
parts_shown (m ∷ ms) = ap (λ ns. (m.name.span, passed m.of) ∷ ns) (parts_shown ms)

members_shown : (o : Option (List Part)) → members_of_tag (passed_parts o) ≡ passed_members (members_of_tag o)
members_shown None = refl
members_shown (Some ms) = ap Some (parts_shown ms)

tag_shown : (t : TagState) → tag_of (passed_record t) ≡ passed_tag (tag_of t)
tag_shown t = ap (λ ms. let u : Tag = record { kind = t.kind; members = ms } in u) (members_shown t.members)

pub tags_shown : (ts : List TagState) → map tag_of (passed_records ts) ≡ map passed_tag (map tag_of ts)
tags_shown [] = refl
tags_shown (t ∷ ts) = ap (λ u. u ∷ map tag_of (passed_records ts)) (tag_shown t)
    ∙ ap (λ us. passed_tag (tag_of t) ∷ us) (tags_shown ts)

-- ---- what holds of each tag

no_parts : (o : Option (List Part)) → passed_parts o ≡ None → o ≡ None
no_parts None e = refl
no_parts (Some ms) e = absurd cc

parts_from : (o : Option (List Part)) (ns : List Part) → passed_parts o ≡ Some ns →
    (ms : List Part) × (o ≡ Some ms) × (map passed_part ms ≡ ns)
parts_from None ns e = absurd cc
parts_from (Some ms) ns e = (ms, refl, Rattle.std.proofs.lemmas.Option.same_Some (map passed_part ms) ns e)

pub tag_passed : (ts : List TagState) (n : ℕ) (t : TagState) → TagOk ts n t →
    TagOk (passed_records ts) n (passed_record t)
tag_passed ts n t h = record {
  unknown = λ e. h.unknown (no_parts t.members e);
  known = λ ns e.
      let m = parts_from t.members ns e in
      let k = h.known m.0 m.1 in
      (k.0, k.1, k.2, ap (record_extent (passed_records ts) t.kind) (sym m.2) ∙ layout_passed ts t.kind m.0 ∙ k.3, k.4);
  parts = λ ns k p e q.
      let m = parts_from t.members ns e in
      let o = mapped_from passed_part m.0 k p (ap (λ ps. slice_get ps k) m.2 ∙ q) in
      let z = h.parts m.0 k o.0 m.1 o.1 in
      subst (PartOk (passed_records ts)) o.2 (record
      { type = type_passed ts o.0.of z.type; complete = complete_passed ts o.0.of z.complete });
  laid = λ x e.
      let l = h.laid x e in (
        l.0,
        ap (λ us. tree_extent l.0 us (Tagged n)) (tags_shown ts) ∙ tree_passed l.0 (map tag_of ts) (Tagged n)
            ∙ l.1,
      );
}

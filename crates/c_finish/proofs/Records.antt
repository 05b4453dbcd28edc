-- What is declared of a tag.
use Rattle.std.proofs.Common.{◌≡◌, ℕ, ◌<◌, List, [], ◌∷◌, length, take, map, Option, Some, None, refl, sym, ap, subst}
use Rattle.std.proofs.Common.{◌∙◌, arith}
use Rattle.std.specs.Prelude.{slice_get, option_map}
use Rattle.std.proofs.lemmas.Option.{slice_get-map, slice_get-get_or, slice_get_within, get_or_from_slice_get}
use Rattle.ck_base.specs.declared.positions.Span.{Span}
use Rattle.c_tree.specs.declared.syntax.RecordKind.{RecordKind}
use Rattle.c_tree.specs.declared.syntax.RecordKind.TheVariants as records
use Rattle.c_tree.specs.declared.typed.CType.{CType}
use Rattle.c_tree.specs.declared.typed.CType.TheVariants as ctypes
use Rattle.c_tree.specs.declared.typed.Member.{Member}
use Rattle.c_tree.specs.Types.{Ty, Void, Tagged}
use Rattle.c_tree.specs.Terms.{Tag}
use Rattle.c_tree.specs.Scopes.{Part, TagState, State}
use Rattle.c_tree.specs.Views.{type_from, types_of, type_at, member_of, TagAgrees}
use Rattle.c_tree.specs.Programs.{tag_of, member_of_tag, members_of_tag}
use Rattle.c_interner.proofs.Growing.{length-types_of, type_at-level}
use Rattle.c_types.specs.Stands.{named, member_kept, members_kept, part_seen, SeenTag, tag_seen, tag_kept, IsOfKind}
use Rattle.c_types.proofs.Looking.{seen_at}
use Rattle.c_elaborator.specs.declared.work.Work.{Work}
use Rattle.c_elaborator.specs.Work.{Shows}

abbrev pair_with : Span → Ty → Span × Ty
pair_with m t = (m, t)

pair_same : (m n : Span) (s t : Ty) → m ≡ n → s ≡ t → pair_with m s ≡ pair_with n t
pair_same m n s t e f = rw (e, f) refl

one_member : (ts : List Ty) (m : Member) (p : Part) → member_kept ts m ≡ part_seen p → member_of_tag p ≡ member_of ts m
one_member ts m p e =
    let n : named ts m.of ≡ Some p.of = ap (λ (x : Span × Option Ty). x.1) e in
    pair_same p.name.span m.name p.of (type_at ts m.of) (sym (ap (λ (x : Span × Option Ty). x.0) e))
    (sym (get_or_from_slice_get ts m.of p.of Void n))

members_same : (ts : List Ty) (ms : List Member) (ps : List Part) → map (member_kept ts) ms ≡ map part_seen ps →
    map member_of_tag ps ≡ map (member_of ts) ms
members_same ts [] [] e = refl
members_same ts [] (p ∷ ps) e = absurd cc
members_same ts (m ∷ ms) [] e = absurd cc
members_same ts (m ∷ ms) (p ∷ ps) e =
    let a : member_kept ts m ≡ part_seen p = cc in
    let b : map (member_kept ts) ms ≡ map part_seen ps = cc in
    let x = one_member ts m p a in
    let y = members_same ts ms ps b in
    cc

members_are : (ts : List Ty) (ms : List Member) (o : Option (List Part)) →
    Some (map (member_kept ts) ms) ≡ option_map (map part_seen) o → members_of_tag o ≡ Some (map (member_of ts) ms)
members_are ts ms None e = absurd cc
members_are ts ms (Some ps) e =
    let a : map (member_kept ts) ms ≡ map part_seen ps = cc in ap (λ xs. Some xs) (members_same ts ms ps a)

abbrev tag_with : RecordKind → Option (List (Span × Ty)) → Tag
tag_with k o = record { kind = k; members = o }

tag_same : (j k : RecordKind) (o q : Option (List (Span × Ty))) → j ≡ k → o ≡ q →
    Some (tag_with j o) ≡ Some (tag_with k q)
tag_same j k o q e f = rw (e, f) refl

no_members : (o : Option (List Part)) → None ≡ option_map (map part_seen) o → members_of_tag o ≡ None
no_members None e = refl
no_members (Some ps) e = absurd cc

-- what is kept of the tag of a struct or union among the types
record IsKept (w : Work) (s : State) (c : CType) (n : ℕ) : Type 0 where
  pub tag : TagState
  pub there : slice_get s.tags n ≡ Some tag
  pub kind : IsOfKind tag.kind (Some c)
  pub members : members_kept (types_of w.nodes.p.types) (Some c) ≡ option_map (map part_seen) tag.members

kept : (w : Work) (s : State) (k : ℕ) (c : CType) (n : ℕ) → Shows w s → slice_get w.nodes.p.types k ≡ Some c →
    ((f : ℕ → Ty) → type_from c f ≡ Tagged n) → IsKept w s c n
kept w s k c n h e f =
    let types = w.nodes.p.types in
    let ts = types_of types in
    let z = h.stands in
    let lt : k < length ts = omega (arith, slice_get_within types k c e, length-types_of types) in
    let is : type_at ts k ≡ Tagged n = type_at-level types k c e ∙ f (type_at (types_of (take k types))) in
    let i = z.tagged k n (slice_get-get_or ts k Void lt ∙ ap (λ t. Some t) is) in
    let t = seen_at (tag_kept types ts) tag_seen w.nodes.scopes.tags.items s.tags n i.0 z.tags i.1 in
    let of : slice_get types i.0.of ≡ Some c = ap (slice_get types) i.2 ∙ e in
    record {
      tag = t.0;
      there = t.1;
      kind = subst (λ j. IsOfKind j (Some c)) (ap (λ (x : SeenTag). x.kind) t.2)
          (subst (IsOfKind i.0.kind) of (z.kinds n i.0 i.1));
      members = ap (members_kept ts) (sym of) ∙ ap (λ (x : SeenTag). x.members) t.2;
    }

complete_agrees : (w : Work) (s : State) (c : CType) (n : ℕ) (kind : RecordKind) (ms : List Member) →
    (x : IsKept w s c n) → x.tag.kind ≡ kind →
    Some (map (member_kept (types_of w.nodes.p.types)) ms) ≡ option_map (map part_seen) x.tag.members →
    slice_get (map tag_of s.tags) n ≡ Some (record
    { kind = kind; members = Some (map (member_of (types_of w.nodes.p.types)) ms) })
complete_agrees w s c n kind ms x e f =
    let ts = types_of w.nodes.p.types in
    slice_get-map tag_of s.tags n ∙ ap (option_map tag_of) x.there
    ∙ tag_same x.tag.kind kind (members_of_tag x.tag.members) (Some (map (member_of ts) ms)) e
    (members_are ts ms x.tag.members f)

-- each struct and union among the types is what is declared of its tag
pub tag_agrees : (w : Work) (s : State) (k : ℕ) (c : CType) → Shows w s → slice_get w.nodes.p.types k ≡ Some c →
    TagAgrees (types_of w.nodes.p.types) (map tag_of s.tags) c
tag_agrees w s k (ctypes.Struct n ms) h e =
    let x = kept w s k (ctypes.Struct n ms) n h e (λ f. refl) in
    complete_agrees w s (ctypes.Struct n ms) n records.Struct ms x x.kind x.members
tag_agrees w s k (ctypes.Union n ms) h e =
    let x = kept w s k (ctypes.Union n ms) n h e (λ f. refl) in
    complete_agrees w s (ctypes.Union n ms) n records.Union ms x x.kind x.members
tag_agrees w s k (ctypes.Incomplete n) h e =
    let x = kept w s k (ctypes.Incomplete n) n h e (λ f. refl) in
    (tag_of x.tag, slice_get-map tag_of s.tags n ∙ ap (option_map tag_of) x.there, no_members x.tag.members x.members)
tag_agrees w s k c h e = tt

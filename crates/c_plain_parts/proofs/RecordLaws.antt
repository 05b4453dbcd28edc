-- A struct or union by its tag, from its kind and its members as they are kept.
use Rattle.std.proofs.Common.{◌≡◌, ℕ, List, [], ◌∷◌, map, Option, Some, None, refl, sym, ap, ◌∙◌}
use Rattle.std.specs.Prelude.{slice_get, option_map}
use Rattle.std.proofs.lemmas.Option.{get_or_from_slice_get, none-some}
use Rattle.c_tree.specs.declared.syntax.RecordKind.{RecordKind}
use Rattle.c_tree.specs.declared.syntax.RecordKind.TheVariants.{Struct, Union}
use Rattle.c_tree.specs.declared.typed.Member.{Member}
use Rattle.c_tree.specs.Layout.{Extent, member_offset, behind, no_members, within}
use Rattle.c_tree.specs.Types.{Ty, Void}
use Rattle.c_tree.specs.Scopes.{Part, State, TagState, type_extent}
use Rattle.c_tree.specs.Initializers.{or_none, next_within, struct_places, record_places, known_places, tag_places}
use Rattle.c_tree.specs.Views.{types_of}
use Rattle.c_types.specs.Stands.{named, part_seen, member_kept}
use Rattle.c_expressions.specs.Nodes.{type_in}
use Rattle.c_elaborator.specs.declared.work.Work.{Work}
use Rattle.c_plain_parts.specs.Members.{numbered_places, places_in, members_of}

type-kept : (w : Work) (p : Part) (m : Member) → part_seen p ≡ member_kept (types_of w.nodes.p.types) m →
    p.of ≡ type_in w.nodes m.of
type-kept w p m e =
    let n : named (types_of w.nodes.p.types) m.of ≡ Some p.of = sym (ap (λ y. y.1) e) in
    sym (get_or_from_slice_get (types_of w.nodes.p.types) m.of p.of Void n)

struct-placed : (w : Work) (tags : List TagState) (ps : List Part) (ms : List Member) (x : Extent) →
    map part_seen ps ≡ map (member_kept (types_of w.nodes.p.types)) ms →
    struct_places tags ps x ≡ numbered_places w tags ms x
struct-placed w tags [] [] x h = refl
struct-placed w tags [] (m ∷ ms) x h = absurd cc
struct-placed w tags (p ∷ ps) [] x h = absurd cc
struct-placed w tags (p ∷ ps) (m ∷ ms) x h =
    let a : part_seen p ≡ member_kept (types_of w.nodes.p.types) m = cc in
    let b : map part_seen ps ≡ map (member_kept (types_of w.nodes.p.types)) ms = cc in
    ap (λ t. or_none (next_within x (type_extent tags t))
    (λ y. (member_offset y x, t) ∷ struct_places tags ps (behind y x)))
    (type-kept w p m a)
    ∙ inside (next_within x (type_extent tags (type_in w.nodes m.of))) (type_in w.nodes m.of)
    (λ y. struct-placed w tags ps ms (behind y x) b)
  where
    inside : (o : Option Extent) (t : Ty) →
        ((y : Extent) → struct_places tags ps (behind y x) ≡ numbered_places w tags ms (behind y x)) →
        or_none o (λ y. (member_offset y x, t) ∷ struct_places tags ps (behind y x))
        ≡ or_none o (λ y. (member_offset y x, t) ∷ numbered_places w tags ms (behind y x))
    inside None t f = refl
    inside (Some y) t f = ap (λ l. (member_offset y x, t) ∷ l) (f y)

record-placed : (w : Work) (tags : List TagState) (k : RecordKind) (ps : List Part) (ms : List Member) →
    map part_seen ps ≡ map (member_kept (types_of w.nodes.p.types)) ms → record_places tags k ps ≡ places_in w tags k ms
record-placed w tags Struct ps ms h = struct-placed w tags ps ms no_members h
record-placed w tags Union [] [] h = refl
record-placed w tags Union [] (m ∷ ms) h = absurd cc
record-placed w tags Union (p ∷ ps) [] h = absurd cc
record-placed w tags Union (p ∷ ps) (m ∷ ms) h =
    let a : part_seen p ≡ member_kept (types_of w.nodes.p.types) m = cc in
    ap (λ t. or_none (within (type_extent tags t)) (λ y. (0, t) ∷ [])) (type-kept w p m a)

nothing-placed : (w : Work) (tags : List TagState) (k : RecordKind) → places_in w tags k [] ≡ []
nothing-placed w tags Struct = refl
nothing-placed w tags Union = refl

-- the members that are kept are those of the struct or union
pub kept-placed : (w : Work) (s : State) (tag : ℕ) (t : TagState) (ms : List Member) → slice_get s.tags tag ≡ Some t →
    Some (map (member_kept (types_of w.nodes.p.types)) ms) ≡ option_map (map part_seen) t.members →
    members_of s tag ≡ places_in w s.tags t.kind ms
kept-placed w s tag t ms e h = ap (tag_places s.tags) e ∙ by_members t.members h
  where
    by_members : (o : Option (List Part)) →
        Some (map (member_kept (types_of w.nodes.p.types)) ms) ≡ option_map (map part_seen) o →
        known_places s.tags t.kind o ≡ places_in w s.tags t.kind ms
    by_members None f = absurd (none-some _ (sym f))
    by_members (Some ps) f = let g : map part_seen ps ≡ map (member_kept (types_of w.nodes.p.types)) ms = cc in
        record-placed w s.tags t.kind ps ms g

-- none are kept where it is not complete
pub none-placed : (w : Work) (s : State) (tag : ℕ) (t : TagState) → slice_get s.tags tag ≡ Some t →
    None ≡ option_map (map part_seen) t.members → members_of s tag ≡ places_in w s.tags t.kind []
none-placed w s tag t e h = ap (tag_places s.tags) e ∙ by_members t.members h ∙ sym (nothing-placed w s.tags t.kind)
  where
    by_members : (o : Option (List Part)) → None ≡ option_map (map part_seen) o → known_places s.tags t.kind o ≡ []
    by_members None f = refl
    by_members (Some ps) f = absurd (none-some _ f)

-- ---- the kind of a struct or union

pub kind-some : (o : Option TagState) (k : RecordKind) → Some k ≡ option_map (λ (t : TagState). t.kind) o →
    (t : TagState) × (o ≡ Some t) × (t.kind ≡ k)
kind-some None k e = absurd cc
kind-some (Some t) k e = (t, refl, cc)

pub kind-none : (o : Option TagState) → None ≡ option_map (λ (t : TagState). t.kind) o → o ≡ None
kind-none None e = refl
kind-none (Some t) e = absurd cc

pub placed-kind : (w : Work) (s : State) (tag : ℕ) (t : TagState) (k : RecordKind) (ms : List Member) → t.kind ≡ k →
    members_of s tag ≡ places_in w s.tags t.kind ms → members_of s tag ≡ places_in w s.tags k ms
placed-kind w s tag t k ms e h = h ∙ ap (λ j. places_in w s.tags j ms) e

-- Where the members of a struct begin.
use Rattle.std.proofs.Common.{◌≡◌, ℕ, zero, suc, ◌+◌, List, [], ◌∷◌, ◌++◌, map, drop, Some, sym, ap, ◌∙◌, arith}
use Rattle.std.proofs.Common.{append_assoc}
use Rattle.std.specs.Prelude.{slice_get}
use Rattle.std.proofs.lemmas.Option.{same_Some, none-some, get_or_from_slice_get}
use Rattle.c_tree.specs.declared.typed.CType.{CType}
use Rattle.c_tree.specs.declared.typed.Member.{Member}
use Rattle.c_tree.specs.Initializers.{or_none, next_within, struct_places}
use Rattle.c_tree.specs.Layout.{Extent, member_offset, behind, no_members}
use Rattle.c_tree.specs.Scopes.{Part, TagState, type_extent}
use Rattle.c_tree.specs.Types.{Ty, Void}
use Rattle.c_tree.specs.Views.{type_at, types_of}
use Rattle.c_types.specs.Calls.{HasParts}
use Rattle.c_type_sizes.specs.Sizes.{numbered_extent}
use Rattle.c_types.specs.Stands.{part_seen, member_kept}
use Rattle.ck_base.specs.declared.positions.Span.{Span}
use Rattle.std.specs.Prelude.{Bool, false, Option, None, IfSome, nat_eq}
use Rattle.std.specs.Map.{lookup}
use Rattle.c_types.specs.declared.scopes.MemberTable.{MemberTable}
use Rattle.c_types.specs.Stands.{ShowsMembers, offset_among, starts_in}
use Rattle.c_types.proofs.Looking.{seen_at}

drop_item : {A : Type 0} (xs : List A) (i : ℕ) (x : A) → slice_get xs i ≡ Some x → drop i xs ≡ x ∷ drop (suc i) xs
drop_item [] i x e = absurd (none-some x e)
drop_item (y ∷ xs) zero x e = ap (λ z. z ∷ xs) (same_Some y x e)
drop_item (y ∷ xs) (suc i) x e = drop_item xs i x e

abbrev pub starts : List TagState → List Part → Extent → List ℕ
starts tags parts x = map (λ (y : ℕ × Ty). y.0) (struct_places tags parts x)

-- one more member begins behind those before it
pub starts_turn : (tags : List TagState) (cs : List CType) (parts : List Part) (ms : List Member) (i : ℕ) (m : Member)
    (before l after : Extent) (found more : List ℕ) (z : ℕ) → HasParts (types_of cs) parts ms →
    slice_get ms i ≡ Some m → next_within before (numbered_extent tags cs m.of) ≡ Some l → z ≡ member_offset l before →
    after ≡ behind l before → more ≡ found ++ z ∷ [] →
    starts tags parts no_members ≡ found ++ starts tags (drop i parts) before →
    starts tags parts no_members ≡ more ++ starts tags (drop (i + 1) parts) after
starts_turn tags cs parts ms i m before l after found more z has e x f g n h =
    let ts = types_of cs in
    let t = seen_at (member_kept ts) part_seen ms parts i m (sym has) e in
    let of : type_at ts m.of ≡ t.0.of = get_or_from_slice_get ts m.of t.0.of Void
    (ap (λ (y : Span × Option Ty). y.1) t.2) in
    let known : next_within before (type_extent tags t.0.of) ≡ Some l =
    ap (λ u. next_within before (type_extent tags u)) (sym of) ∙ x in
    let next : i + 1 ≡ suc i = omega arith in
    rw (n, g, next, f)
    (h ∙ ap (λ xs. found ++ starts tags xs before) (drop_item parts i t.0 t.1)
    ∙ ap (λ o. found ++ map (λ (y : ℕ × Ty). y.0)
    (or_none o (λ y. (member_offset y before, t.0.of) ∷ struct_places tags (drop (suc i) parts) (behind y before))))
    known
    ∙ sym (append_assoc found (member_offset l before ∷ []) (starts tags (drop (suc i) parts) (behind l before))))

-- what a table has of a member is its offset
pub offset_seen : (file : List ℕ) (stale : Bool) (tables : List (ℕ × MemberTable)) (tags : List TagState) (n k : ℕ)
    (o : Option ℕ) → stale ≡ false → ShowsMembers file stale tables tags →
    o ≡ offset_among (lookup (nat_eq n) tables) k →
    IfSome o (λ z. slice_get (starts_in tags (slice_get tags n)) k ≡ Some z)
offset_seen file stale tables tags n k None f h e = tt
offset_seen file stale tables tags n k (Some z) f h e = h.offsets f n k z (sym e)

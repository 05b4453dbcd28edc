-- Parts of objects end before 2 ^ 62.
use Rattle.std.proofs.Common.{◌≡◌, ℕ, zero, suc, ◌+◌, ◌-◌, ◌*◌, ◌^◌, ◌<◌, ◌≤◌, min, Bool, true, false, leb, cond, List}
use Rattle.std.proofs.Common.{[], ◌∷◌, length, get_or, map, Option, Some, None, refl, sym, ap, subst, ◌∙◌, arith}
use Rattle.std.specs.Prelude.{slice_get}
use Rattle.std.specs.List.{All}
use Rattle.std.proofs.lemmas.Bool.{leb-true, leb-false}
use Rattle.std.proofs.lemmas.List.{get_or-map, length-map}
use Rattle.std.proofs.lemmas.List.Elements.{All-nil, All-cons}
use Rattle.std.proofs.Math.Nat.{mul-le-mul_right}
use Rattle.c_tree.specs.declared.syntax.RecordKind.{RecordKind}
use Rattle.c_tree.specs.declared.syntax.RecordKind.TheVariants.{Struct, Union}
use Rattle.c_tree.specs.Types.{Ty, Array, Tagged, Const}
use Rattle.c_tree.specs.Layout.{Extent, size_limit, within, with_extent, times, fitting, size_of, member_offset, behind}
use Rattle.c_tree.specs.Layout.{no_members}
use Rattle.c_tree.specs.Scopes.{State, TagState, Part, type_extent, size}
use Rattle.c_tree.specs.Initializers.{or_none, next_within, struct_places, first_place, record_places, known_places}
use Rattle.c_tree.specs.Initializers.{tag_places}
use Rattle.c_expressions.specs.Nodes.{type_in, type_count}
use Rattle.c_elaborator.specs.declared.work.Work.{Work}
use Rattle.c_elaborator.specs.Work.{Shows}
use Rattle.c_plain_rules.specs.Place.{Place}
use Rattle.c_initializers.specs.declared.scalars.Row.{Row}
use Rattle.c_plain_rules.specs.Members.{place_in, members_of, IsPlaceThere, IsClose, IsTagCount, AreAllMembers}
use Rattle.c_initializers.specs.Rows.{FitsAt, Fits, IsRowThere}
use Rattle.c_initializers.specs.Sizes.{HasSize, IsSized}

-- ---- the members that an initializer has values for have sizes

abbrev AreSized : State → List (ℕ × Ty) → Type 0
AreSized s ps = All (λ (p : ℕ × Ty). HasSize s p.1) ps

within-is : (o : Option Extent) (y : Extent) → within o ≡ Some y → (o ≡ Some y) × (y.size ≤ size_limit)
within-is None y e = absurd cc
within-is (Some x) y e = by (leb x.size size_limit) refl e
  where
    by : (b : Bool) → leb x.size size_limit ≡ b → cond b (Some x) None ≡ Some y →
        (Some x ≡ Some y) × (y.size ≤ size_limit)
    by true f g = let z : x ≡ y = cc in
        (g, subst (λ (v : Extent). v.size ≤ size_limit) z (leb-true x.size size_limit f))
    by false f g = absurd cc

next-is : (x : Extent) (o : Option Extent) (y : Extent) → next_within x o ≡ Some y → within o ≡ Some y
next-is x o y e = by (leb x.size size_limit) e
  where
    by : (b : Bool) → cond b (within o) None ≡ Some y → within o ≡ Some y
    by true g = g
    by false g = absurd cc

-- one more part, if its type has a size
one-sized : (s : State) (t : Ty) (o : Option Extent) (f : Extent → ℕ) (g : Extent → List (ℕ × Ty)) →
    ((y : Extent) → o ≡ Some y → within (type_extent s.tags t) ≡ Some y) → ((y : Extent) → AreSized s (g y)) →
    AreSized s (or_none o (λ y. (f y, t) ∷ g y))
one-sized s t None f g h a = All-nil (λ (p : ℕ × Ty). HasSize s p.1)
one-sized s t (Some y) f g h a =
    let i = within-is (type_extent s.tags t) y (h y refl) in
    All-cons (λ (p : ℕ × Ty). HasSize s p.1) (f y, t) (g y) (record { extent = y; is = i.0; small = i.1 }) (a y)

struct-sized : (s : State) (ms : List Part) (x : Extent) → AreSized s (struct_places s.tags ms x)
struct-sized s [] x = All-nil (λ (p : ℕ × Ty). HasSize s p.1)
struct-sized s (m ∷ ms) x =
    one-sized s m.of (next_within x (type_extent s.tags m.of)) (λ y. member_offset y x)
    (λ y. struct_places s.tags ms (behind y x)) (next-is x (type_extent s.tags m.of))
    (λ y. struct-sized s ms (behind y x))

union-sized : (s : State) (ms : List Part) → AreSized s (first_place s.tags ms)
union-sized s [] = All-nil (λ (p : ℕ × Ty). HasSize s p.1)
union-sized s (m ∷ ms) =
    one-sized s m.of (within (type_extent s.tags m.of)) (λ y. 0) (λ y. []) (λ y e. e)
    (λ y. All-nil (λ (p : ℕ × Ty). HasSize s p.1))

record-sized : (s : State) (k : RecordKind) (ms : List Part) → AreSized s (record_places s.tags k ms)
record-sized s Struct ms = struct-sized s ms no_members
record-sized s Union ms = union-sized s ms

known-sized : (s : State) (k : RecordKind) (o : Option (List Part)) → AreSized s (known_places s.tags k o)
known-sized s k None = All-nil (λ (p : ℕ × Ty). HasSize s p.1)
known-sized s k (Some ms) = record-sized s k ms

tag-sized : (s : State) (o : Option TagState) → AreSized s (tag_places s.tags o)
tag-sized s None = All-nil (λ (p : ℕ × Ty). HasSize s p.1)
tag-sized s (Some t) = known-sized s t.kind t.members

pub member-sized : (w : Work) (s : State) (tag : ℕ) (places : List Place) (i : ℕ) (d : Place) →
    map (place_in w) places ≡ members_of s tag → i < length places →
    HasSize s (type_in w.nodes (get_or places i d).of)
member-sized w s tag places i d e l =
    let a = subst (AreSized s) (sym e) (tag-sized s (slice_get s.tags tag)) in
    subst (λ (p : ℕ × Ty). HasSize s p.1) (get_or-map (place_in w) places i d (place_in w d) l)
    (a i (place_in w d) (omega (arith, length-map places (place_in w))))

-- ---- where parts end

pub exact : (n sum : ℕ) → n ≡ min sum 18446744073709551615 → sum ≤ 2 ^ 62 → n ≡ sum
exact n sum e l = omega arith

pub whole-fits : (w : Work) (of tags : ℕ) → IsSized w of → IsTagCount w tags → Fits w (type_in w.nodes of) 0 tags
whole-fits w of tags z c s h =
    let t = z s h in
    record { type = t; end = omega (arith, t.small, c s h, h.stands.members.few) }

pub single-there : (w : Work) (r : Row) (of at tags : ℕ) →
    r ≡ record { at = at; of = of; count = 1; step = 0; tags = tags } → of < type_count w.nodes →
    Fits w (type_in w.nodes of) at tags → IsRowThere w r
single-there w r of at tags e l f =
    subst (IsRowThere w) (sym e) (record {
      of = l;
      fits = λ k m s h. let z : at ≡ at + k * 0 = omega arith in
          subst (λ n. FitsAt s (type_in w.nodes of) n tags) z (f s h);
    })

pub first-fits : (w : Work) (r : Row) → IsRowThere w r → 0 < r.count → Fits w (type_in w.nodes r.of) r.at r.tags
first-fits w r h l =
    let z : r.at + 0 * r.step ≡ r.at = omega arith in
    subst (λ n. Fits w (type_in w.nodes r.of) n r.tags) z (h.fits 0 l)

-- what is behind the first part of a row
pub next-at : (w : Work) (s : State) (r : Row) (at : ℕ) → IsRowThere w r → Shows w s → 1 < r.count →
    at ≡ min (r.at + r.step) 18446744073709551615 → at ≡ r.at + r.step
next-at w s r at h k l e = let i = (h.fits 1 l s k).end in omega arith

pub rest-there : (w : Work) (r : Row) (at : ℕ) → IsRowThere w r → 1 < r.count →
    at ≡ min (r.at + r.step) 18446744073709551615 → IsRowThere w (record r { at = at; count = r.count - 1 })
rest-there w r at h l e = record {
  of = h.of;
  fits = λ k m s i. let z : r.at + suc k * r.step ≡ at + k * r.step = omega (arith, next-at w s r at h i l e) in
      subst (λ n. FitsAt s (type_in w.nodes r.of) n r.tags) z (h.fits (suc k) (omega arith) s i);
}

-- the elements of an array
fits-in : (k n : ℕ) → suc k * n ≤ size_limit → fitting n ≡ n
fits-in k n l = by (leb n size_limit) refl
  where
    by : (b : Bool) → leb n size_limit ≡ b → cond b n 0 ≡ n
    by true e = refl
    by false e = let s = leb-false n size_limit e in absurd (omega arith)

element-fits : (s : State) (u : Ty) (n step at tags k : ℕ) → size s u ≡ step → FitsAt s (Array u n) at tags → k < n →
    FitsAt s u (at + k * step) tags
element-fits s u n step at tags k e f l = by (type_extent s.tags u) refl n f.type.is l
  where
    by : (o : Option Extent) → type_extent s.tags u ≡ o → (n : ℕ) → with_extent o (times n) ≡ Some f.type.extent →
        k < n → FitsAt s u (at + k * step) tags
    by None q n r i = absurd cc
    by (Some y) q zero r i = absurd (omega arith)
    by (Some y) q (suc m) r i =
        let z : suc m * y.size ≡ f.type.extent.size = cc in
        let c : step ≡ y.size = sym e ∙ ap size_of q ∙ fits-in m y.size (omega (arith, f.type.small)) in
        let p : suc k * y.size ≤ suc m * y.size = mul-le-mul_right y.size (omega arith) in
        rw c (record {
          type = record { extent = y; is = q; small = omega (arith, f.type.small) };
          end = omega (arith, f.end);
        })

pub elements-there : (w : Work) (t : Ty) (of count step at tags : ℕ) → t ≡ Array (type_in w.nodes of) count →
    of < type_count w.nodes → ((s : State) → Shows w s → size s (type_in w.nodes of) ≡ step) → Fits w t at tags →
    IsRowThere w (record { at = at; of = of; count = count; step = step; tags = tags })
elements-there w t of count step at tags e l z f = record {
  of = l;
  fits = λ k m s h. element-fits s (type_in w.nodes of) count step at tags k (z s h)
      (subst (λ u. FitsAt s u at tags) e (f s h)) m;
}

pub inner-fits : (s : State) (t : Ty) (at tags : ℕ) → FitsAt s (Const t) at tags → FitsAt s t at tags
inner-fits s t at tags f = record {
  type = record { extent = f.type.extent; is = f.type.is; small = f.type.small };
  end = f.end;
}

-- a member ends before the structs and unions of a type do
pub member-at : (w : Work) (s : State) (t : Ty) (at tags begin sum : ℕ) → Fits w t at tags → Shows w s → 0 < tags →
    begin ≤ 2 ^ 27 → sum ≡ min (at + begin) 18446744073709551615 → sum ≡ at + begin
member-at w s t at tags begin sum f h l b e = let i = (f s h).end in omega arith

pub member-fits : (w : Work) (s : State) (t u : Ty) (at tags begin sum : ℕ) → Fits w t at tags → Shows w s →
    0 < tags → begin ≤ 2 ^ 27 → sum ≡ min (at + begin) 18446744073709551615 → HasSize s u → FitsAt s u sum (tags - 1)
member-fits w s t u at tags begin sum f h l b e z = record {
  type = z;
  end = omega (arith, member-at w s t at tags begin sum f h l b e, (f s h).end, z.small);
}

pub member-there : (w : Work) (tag at tags i sum : ℕ) (ms : List Place) (m : Place) (r : Row) →
    Fits w (Tagged tag) at tags → 0 < tags → AreAllMembers w tag ms → All IsClose ms → i < length ms →
    m ≡ get_or ms i m → sum ≡ min (at + m.at) 18446744073709551615 →
    r ≡ record { at = sum; of = m.of; count = 1; step = 0; tags = tags - 1 } → IsRowThere w r
member-there w tag at tags i sum ms m r f z a c l q g e =
    single-there w r m.of sum (tags - 1) e (subst (IsPlaceThere w) (sym q) (a.there i m l))
    (λ s h. member-fits w s (Tagged tag) (type_in w.nodes m.of) at tags m.at sum f h z
    (subst IsClose (sym q) (c i m l)) g (subst (λ (p : Place). HasSize s (type_in w.nodes p.of)) (sym q)
    (member-sized w s tag ms i m (a.are s h) l)))

-- The pointers with which globals begin: where they stand, and which values and capabilities they are.
use Rattle.std.proofs.Common.{◌≡◌, ℕ, ◌+◌, ◌%◌, ◌^◌, ◌<◌, ◌≤◌, Bool, true, false, List, [], length, Some, refl, sym, ap}
use Rattle.std.proofs.Common.{◌∙◌, subst, arith}
use Rattle.std.specs.Prelude.{slice_get, if◌then◌else◌}
use Rattle.ck_int.specs.Kinds.{kept_of}
use Rattle.cap_concentrate.specs.Rounding.{owned}
use Rattle.cap_concentrate.proofs.Owned.{owned_ge}
use Rattle.cap_ops.specs.Bounded.{bounded}
use Rattle.cap_ops.specs.Capability.{lacks}
use Rattle.cap_ops.specs.Permissions.{data_permissions, const_permissions}
use Rattle.cap_ops.specs.declared.capability.TheConstants.{UNSEALED, EXECUTE}
use Rattle.c_tree.specs.Layout.{Extent, extent}
use Rattle.c_tree.specs.Statics.{is_exact, is_near}
use Rattle.c_tree.specs.Typing.{Sound}
use Rattle.c_tree.specs.WellTyped.{LinkFits, OwnsBytes}
use Rattle.c_tree.specs.declared.typed.GlobalDef.{GlobalDef}
use Rattle.c_tree.specs.declared.typed.Link.{Link}
use Rattle.c_tree.specs.declared.typed.Target.{Target}
use Rattle.c_tree.specs.declared.typed.Target.TheVariants as target
use Rattle.c_tree.specs.declared.typed.Typed.{Typed}
use Rattle.obj_mem.specs.Needs.{Legal, global_need, is_const}
use Rattle.obj_mem.specs.Objects.{Shape, base_in}
use Rattle.obj_mem.specs.Table.{Holds, addresses_of, object_base, permissions_of, start_at, start_of}
use Rattle.obj_mem.specs.Values.{Value, Live, Fun, Addresses, capability_of, is_tagged}
use Rattle.obj_mem.specs.declared.map.Map.{Map}
use Rattle.obj_mem.proofs.Fitting.{near_keeps}
use Rattle.cap_reloc.specs.Begins.{asked_by}
use Rattle.cap_reloc.proofs.Under.{size_is, need_permissions, functions_count}
use Rattle.cheri_c_sem.specs.Expressions.{permissions_of as permissions_in}
use Rattle.cheri_c_sem.specs.Programs.{value_at}
use Rattle.placement.proofs.Initial.{exact_fitted, near_kept, kept_word}
use Rattle.placement.proofs.Lists.{some_same, map_get, map_length}
use Rattle.placement.proofs.TypedFits.{own_is}
use Rattle.place_inject.specs.Values.{IsHeld, IsKnown}
use Rattle.place_inject.proofs.Known.{base_is as base_in_is}
use Rattle.image_starts.proofs.Maps.{typed, shapes, is_spread, global_shape, literal_shape, global_at, literal_at}
use Rattle.image_starts.proofs.Maps.{base_is}

abbrev word : Bool → ℕ
word b = if b then const_permissions else data_permissions

word_lacks : (b : Bool) → lacks (word b) EXECUTE ≡ true
word_lacks true = refl
word_lacks false = refl

word_small : (b : Bool) → word b < 4096
word_small true = omega arith
word_small false = omega arith

-- a pointer by the bases of its object in two ways
live_alike : (a : Addresses) (b c : ℕ → ℕ) (object low high offset permissions : ℕ) → b object ≡ c object
    → capability_of a b (Live object low high offset permissions)
    ≡ capability_of a c (Live object low high offset permissions)
unfolding capability_of
live_alike a b c object low high offset permissions e =
    ap (λ x. bounded (x + low) (x + high) permissions UNSEALED ((x + offset) % 2 ^ 64)) e

fun_alike : (a : Addresses) (b c : ℕ → ℕ) (f : ℕ) → capability_of a b (Fun f) ≡ capability_of a c (Fun f)
unfolding capability_of
fun_alike a b c f = refl

module _ (p : Typed) (sound : Sound p) (m : Map) (legal : Legal p m) where
  abbrev u : List Shape
  u = shapes p sound m legal

  abbrev functions : ℕ
  functions = length (asked_by p).functions

  -- bounds that are exact in an object, and an address that is near them
  held : (o : ℕ) (h : Shape) → slice_get u o ≡ Some h → (l : Link) → l.low + l.length ≤ h.owned
      → is_exact l.low l.length ≡ true → is_near l.low l.length l.offset ≡ true → (b : Bool)
      → IsHeld u o l.low (l.low + l.length) (kept_of l.offset) (word b)
  held o h there l inside exact near b =
      let based = (is_spread p sound m legal).placed o h there in
      let to = based.to in
      let fit = exact_fitted h.owned l.low l.length inside (omega (arith, inside, to)) exact in
      let close = near_kept l.low l.length l.offset (omega (arith, inside, to)) near in
      record {
        shape = h;
        there = there;
        ordered = omega arith;
        inside = inside;
        kept = near_keeps h.base h.owned h.length based l.low (l.low + l.length) (kept_of l.offset) fit
            (kept_word l.offset) close;
        word = kept_word l.offset;
        twelve_bits = word_small b;
        no_execute = word_lacks b;
      }

  global_owns : (k : ℕ) (g : GlobalDef) (e : slice_get p.globals k ≡ Some g) (x : Extent)
      → extent p.types g.of ≡ Some x → owned x.size ≡ (global_shape p sound m legal k g).owned
  global_owns k g e x is =
      let w = typed p sound m legal in
      let same : x ≡ (w.globals k g e).extent =
      some_same (extent p.types g.of) x (w.globals k g e).extent is (w.globals k g e).own in
      ap (λ (y : Extent). owned y.size) same ∙ ap owned (sym (size_is p w k g e))

  -- a value that is stored with a tag, and is one of the run
  pub record IsGood (l : Link) (v : Value) : Type 0 where
    pub known : IsKnown u functions v
    pub tagged : is_tagged v ≡ true
    pub start : start_of (asked_by p) l ≡ Holds v
    pub alike : capability_of (addresses_of m) (object_base m) v ≡ capability_of (addresses_of m) (base_in u) v

  alike_at : (o : ℕ) (h : Shape) → slice_get u o ≡ Some h → (low high offset permissions : ℕ)
      → capability_of (addresses_of m) (object_base m) (Live o low high offset permissions)
      ≡ capability_of (addresses_of m) (base_in u) (Live o low high offset permissions)
  alike_at o h there low high offset permissions =
      live_alike (addresses_of m) (object_base m) (base_in u) o low high offset permissions
      (base_is p sound m legal o h there ∙ sym (base_in_is u o h there))

  good_by : (l : Link) (t : Target) (n : ℕ) → OwnsBytes p t n → l.low + l.length ≤ n
      → is_exact l.low l.length ≡ true → is_near l.low l.length l.offset ≡ true
      → IsKnown u functions (value_at p l t) × (is_tagged (value_at p l t) ≡ true)
      × (start_at (asked_by p) l t ≡ Holds (value_at p l t))
      × (capability_of (addresses_of m) (object_base m) (value_at p l t)
      ≡ capability_of (addresses_of m) (base_in u) (value_at p l t))
  good_by l (target.Global k) n (g, x, e, has, is) inside exact near =
      let types = sound.types.types in
      let h = global_shape p sound m legal k g in
      let there = global_at p sound m legal k g e in
      let own = own_is p types.program types.ordered types.shows (typed p sound m legal) g.of
      (types.ordered.globals k g e) x has in
      let room : l.low + l.length ≤ h.owned = omega (arith, inside, is, global_owns k g e x own) in
      let b = is_const p.types g.of in
      let found : permissions_in p [] (slice_get p.globals k) ≡ word b = ap (permissions_in p []) e in
      let need : permissions_of (slice_get (asked_by p).globals k) ≡ word b =
      ap permissions_of (map_get (global_need p.types) p.globals k g e)
      ∙ need_permissions (extent p.types g.of) (word b) in
      let v : ℕ → Value = λ w. Live k l.low (l.low + l.length) (kept_of l.offset) w in (
        subst (λ w. IsKnown u functions (v w)) (sym found) (held k h there l room exact near b),
        refl,
        ap (λ w. Holds (v w)) (need ∙ sym found),
        alike_at k h there l.low (l.low + l.length) (kept_of l.offset) (permissions_in p [] (slice_get p.globals k)),
      )
  good_by l (target.Literal k) n (x, e, is) inside exact near =
      let o = length p.globals + k in
      let h = literal_shape p sound m legal k x in
      let there = literal_at p sound m legal k x e in
      let v : ℕ → Value = λ o. Live o l.low (l.low + l.length) (kept_of l.offset) const_permissions in (
        held o h there l (omega (arith, inside, is)) exact near true,
        refl,
        ap (λ n. Holds (v (n + k))) (map_length (global_need p.types) p.globals),
        alike_at o h there l.low (l.low + l.length) (kept_of l.offset) const_permissions,
      )
  good_by l (target.Fun f) n (lt, is) inside exact near = (
    omega (arith, lt, functions_count p m legal, legal.entries),
    refl,
    refl,
    fun_alike (addresses_of m) (object_base m) (base_in u) f,
  )

  pub good : (size : ℕ) (l : Link) → LinkFits p size l → IsGood l (value_at p l l.target)
  good size l f =
      let g = good_by l l.target f.target f.owns f.bounds f.exact f.near in
      record { known = g.0; tagged = g.1; start = g.2; alike = g.3 }

  -- a pointer in a global lies in it
  pub link_inside : (k : ℕ) (g : GlobalDef) (e : slice_get p.globals k ≡ Some g) (l : Link)
      → LinkFits p ((typed p sound m legal).globals k g e).extent.size l
      → l.at + 16 ≤ (global_shape p sound m legal k g).owned
  link_inside k g e l f =
      let inside = f.inside in
      omega (
        arith,
        inside,
        size_is p (typed p sound m legal) k g e,
        owned_ge (global_need p.types g).length,
      )

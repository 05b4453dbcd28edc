-- The numbers of capabilities.
use Rattle.std.proofs.Common.{◌≡◌, ℕ, ◌+◌, ◌-◌, ◌*◌, ◌%◌, ◌^◌, ◌<◌, ◌≤◌, ◌==◌, ◌&&◌, Bool, true, false, nat_lt, List}
use Rattle.std.proofs.Common.{refl, sym, ap, ◌∙◌, arith}
use Rattle.std.specs.Prelude.{Result, Ok}
use Rattle.std.proofs.lemmas.Bool.{le-ltb}
use Rattle.cap_concentrate.specs.Decoding.{base_of, base_at, top_at, one_where}
use Rattle.cap_concentrate.specs.Encoding.{with_bounds}
use Rattle.cap_concentrate.specs.declared.fields.Fields.{Fields}
use Rattle.cap_concentrate.specs.Packing.{fields_of, flipped}
use Rattle.cap_concentrate.specs.Rounding.{Encodable}
use Rattle.cap_ops.specs.declared.capability.Cap.{Cap}
use Rattle.cap_ops.specs.declared.capability.TheConstants.{SENTRY}
use Rattle.cap_ops.specs.Capability.{base, top}
use Rattle.cap_ops.proofs.Laws.{bounded_bounds}
use Rattle.cap_ops.specs.Permissions.{code_permissions}
use Rattle.tag_mem.specs.Areas.{Area}
use Rattle.obj_mem.specs.declared.ending.Fault.{Fault}
use Rattle.obj_mem.specs.Values.{Value, Int, Live, Fun, Raw, Addresses, is_tagged, capability_of, bits, address_of}
use Rattle.obj_mem.specs.Objects.{Shape, Memory, base_in}
use Rattle.obj_mem.specs.Pointers.{raw_base, length_between}
use Rattle.obj_mem.specs.Comparisons.{same_tag}
use Rattle.place_inject.specs.Objects.{ObjectsFit}
use Rattle.place_inject.specs.Getting.{GettersFit, ComparisonsFit, IsPointer, GettingFitsWhereObjectsDo}
use Rattle.place_inject.proofs.Checked.{Points, pointer, pointer_base, pointer_top, perms_same}
use Rattle.place_inject.proofs.Known.{base_is, pointer_is, points, live_address}
use Rattle.place_inject.proofs.Turned.{raw_moved}

number : (x y : ℕ) → x ≡ y → ◌≡◌ {A = Result ℕ Fault} (Ok x) (Ok y)
number x y e = rw e refl

truth : (x y : Bool) → x ≡ y → ◌≡◌ {A = Result Bool Fault} (Ok x) (Ok y)
truth x y e = rw e refl

-- the length between two numbers is that between others as far apart
length_moved : (b low high : ℕ) → low ≤ high → length_between low high ≡ length_between (b + low) (b + high)
length_moved b low high l =
    let e : nat_lt high low ≡ false = le-ltb high low l in
    let f : nat_lt (b + high) (b + low) ≡ false = le-ltb (b + high) (b + low) (omega (arith, l)) in
    let g : b + high - (b + low) ≡ high - low = omega (arith, l) in
    rw (e, f, g) refl

-- ---- a pointer

module _ (a : Addresses) (shapes : List Shape) (o low high at perms : ℕ) (s : Shape)
    (p : Points s.base low high at perms) (is_base : base_in shapes o ≡ s.base)
    (is : capability_of a (base_in shapes) (Live o low high at perms) ≡ pointer s.base low high at perms p) where
  live_base : base (capability_of a (base_in shapes) (Live o low high at perms)) ≡ s.base + low
  live_base = ap base is ∙ pointer_base s.base low high at perms p

  live_top : top (capability_of a (base_in shapes) (Live o low high at perms)) ≡ s.base + high
  live_top = ap top is ∙ pointer_top s.base low high at perms p

  live_tag : (capability_of a (base_in shapes) (Live o low high at perms)).tag ≡ true
  unfolding capability_of
  live_tag = refl

  live_gets : GettersFit a shapes (Live o low high at perms)
      (capability_of a (base_in shapes) (Live o low high at perms))
  live_gets =
      let c = capability_of a (base_in shapes) (Live o low high at perms) in
      let address : c.fields.address ≡ (base_in shapes o + at) % 2 ^ 64 =
      live_address a (base_in shapes) o low high at perms in
      let ordered = p.ordered in
      let to = p.to in
      let word = p.word in
      let own = is_base in
      record {
        addresses = number _ _ (sym address);
        tags = sym live_tag;
        permissions = sym (ap (λ (x : Cap). x.fields.perms) is ∙ perms_same s.base low high at perms p);
        bases = number _ _ (ap (λ b. b + low) is_base ∙ sym live_base);
        lengths = number _ _ (length_moved s.base low high ordered
            ∙ sym (ap (λ b. length_between b (top c)) live_base ∙ ap (length_between (s.base + low)) live_top));
        offsets = number _ _ (sym (ap (λ x. (x + (2 ^ 64 - base c)) % 2 ^ 64) address
            ∙ ap (λ b. ((base_in shapes o + at) % 2 ^ 64 + (2 ^ 64 - b)) % 2 ^ 64) live_base
            ∙ ap (λ b. ((b + at) % 2 ^ 64 + (2 ^ 64 - (s.base + low))) % 2 ^ 64) is_base
            ∙ back s.base low high at ordered to word));
      }
    where
      back : (b low high at : ℕ) → low ≤ high → b + high ≤ 2 ^ 40 → at < 2 ^ 64
          → ((b + at) % 2 ^ 64 + (2 ^ 64 - (b + low))) % 2 ^ 64 ≡ (at + 2 ^ 64 - low) % 2 ^ 64
      back b low high at x y z = omega (arith, x, y, z)

-- ---- a sentry

module _ (a : Addresses) (shapes : List Shape) (f : ℕ) (enc : Encodable a.text a.text_end) (from : a.text ≤ a.entry f)
    (below : a.entry f < a.text_end) (to : a.text_end ≤ 2 ^ 40) where
  sentry_bounds : (base (capability_of a (base_in shapes) (Fun f)) ≡ a.text)
      × (top (capability_of a (base_in shapes) (Fun f)) ≡ a.text_end)
  unfolding capability_of
  sentry_bounds = bounded_bounds a.text a.text_end code_permissions SENTRY (a.entry f) enc
      (omega (arith, from, below, to)) from (omega (arith, below))

  sentry_address : (capability_of a (base_in shapes) (Fun f)).fields.address ≡ a.entry f
  unfolding capability_of with_bounds
  sentry_address = refl

  sentry_tag : (capability_of a (base_in shapes) (Fun f)).tag ≡ true
  unfolding capability_of
  sentry_tag = refl

  sentry_perms : (capability_of a (base_in shapes) (Fun f)).fields.perms ≡ code_permissions
  unfolding capability_of with_bounds
  sentry_perms = refl

  sentry_gets : GettersFit a shapes (Fun f) (capability_of a (base_in shapes) (Fun f))
  sentry_gets =
      let c = capability_of a (base_in shapes) (Fun f) in
      record {
        addresses = number _ _ (sym sentry_address);
        tags = sym sentry_tag;
        permissions = sym sentry_perms;
        bases = number _ _ (sym sentry_bounds.0);
        lengths = number _ _ (sym
            (ap (λ b. length_between b (top c)) sentry_bounds.0 ∙ ap (length_between a.text) sentry_bounds.1));
        offsets = number _ _ (sym (ap (λ x. (x + (2 ^ 64 - base c)) % 2 ^ 64) sentry_address
            ∙ ap (λ b. (a.entry f + (2 ^ 64 - b)) % 2 ^ 64) sentry_bounds.0
            ∙ less_it (a.entry f) a.text (omega (arith, from, below, to))));
      }
    where
      less_it : (x b : ℕ) → b ≤ 2 ^ 64 → (x + (2 ^ 64 - b)) % 2 ^ 64 ≡ (x + 2 ^ 64 - b) % 2 ^ 64
      less_it x b l = omega (arith, l)

-- ---- a value without a tag

base_word : (internal : Bool) (t b address : ℕ) → base_of internal t b address ≤ 2 ^ 64
unfolding base_of
base_word internal t b address = omega arith

module _ (a : Addresses) (shapes : List Shape) (address upper : ℕ) (small : address < 2 ^ 64)
    (word : upper < 2 ^ 64) where
  raw_address : (fields_of (flipped (upper * 2 ^ 64 + address))).address ≡ address
  raw_address = ap (λ (f : Fields). f.address) (raw_moved address upper address small word small)

  raw_gets : GettersFit a shapes (Raw address upper) (capability_of a (base_in shapes) (Raw address upper))
  unfolding capability_of
  raw_gets =
      let f = fields_of (flipped (upper * 2 ^ 64 + address)) in
      let e = raw_address in
      let w = base_word f.internal f.t f.b address in
      record {
        addresses = number _ _ (sym e);
        tags = refl;
        permissions = refl;
        bases = number _ _ (ap (λ x. base_of f.internal f.t f.b x) (sym e));
        lengths = number _ _ (ap (λ x. length_between (base_at f x) (top_at f x)) (sym e));
        offsets = number _ _ (less_it address (raw_base address upper) w
            ∙ ap (λ x. (x + (2 ^ 64 - base_at f x)) % 2 ^ 64) (sym e));
      }
    where
      less_it : (x b : ℕ) → b ≤ 2 ^ 64 → (x + 2 ^ 64 - b) % 2 ^ 64 ≡ (x + (2 ^ 64 - b)) % 2 ^ 64
      less_it x b l = omega (arith, l)

-- ---- the law

tags_alike : (x y : Bool) → same_tag x y ≡ (one_where x == one_where y)
tags_alike true true = refl
tags_alike true false = refl
tags_alike false true = refl
tags_alike false false = refl

module _ (functions : ℕ) (a : Addresses) (m : Memory) (memory : List Area) (f : ObjectsFit functions a m memory)
    (enc : Encodable a.text a.text_end) where
  gets : (v : Value) → IsPointer m.shapes functions v → GettersFit a m.shapes v (capability_of a (base_in m.shapes) v)
  gets (Int n) k = absurd (let e : true ≡ false = k.0 in cc)
  gets (Live o low high at perms) k =
      let held = k.1 in
      live_gets a m.shapes o low high at perms held.shape (points functions a m memory f o low high at perms held)
      (base_is m.shapes o held.shape held.there) (pointer_is a m.shapes o low high at perms held.shape held.there)
  gets (Fun g) k =
      let inside = f.spread.in_text g k.1 in
      sentry_gets a m.shapes g enc inside.0 inside.1 f.spread.text_to
  gets (Raw address upper) k = raw_gets a m.shapes address upper k.1.0 k.1.1

  addresses : (v : Value) → IsPointer m.shapes functions v
      → address_of a (base_in m.shapes) v ≡ (capability_of a (base_in m.shapes) v).fields.address
  addresses v k = same_number _ _ (gets v k).addresses where
    same_number : (x y : ℕ) → ◌≡◌ {A = Result ℕ Fault} (Ok x) (Ok y) → x ≡ y
    same_number x y e = cc

  compares : (v w : Value) → IsPointer m.shapes functions v → IsPointer m.shapes functions w
      → ComparisonsFit a m.shapes v w (capability_of a (base_in m.shapes) v) (capability_of a (base_in m.shapes) w)
  unfolding bits
  compares v w k l =
      let x = addresses v k in
      let y = addresses w l in
      let c = capability_of a (base_in m.shapes) v in
      let d = capability_of a (base_in m.shapes) w in
      record {
        equalities = rw (x, y) refl;
        orders = λ signed. rw (x, y) refl;
        distances = rw (x, y) refl;
        identities = truth _ _ (ap (λ b. b && (bits a (base_in m.shapes) v == bits a (base_in m.shapes) w))
            (ap (λ b. same_tag b (is_tagged w)) (gets v k).tags ∙ ap (same_tag c.tag) (gets w l).tags
            ∙ tags_alike c.tag d.tag));
      }

pub getting_fits_law : GettingFitsWhereObjectsDo
getting_fits_law functions a m memory f enc =
    record { getters = gets functions a m memory f enc; comparisons = compares functions a m memory f enc }

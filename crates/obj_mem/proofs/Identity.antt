-- Equality of all bits agrees in both modes.
use Rattle.std.proofs.Common.{◌≡◌, ℕ, ◌+◌, ◌*◌, ◌%◌, ◌^◌, ◌<◌, ◌==◌, ◌&&◌, Bool, true, false, List, Ok, refl, sym, ap}
use Rattle.std.proofs.Common.{◌∙◌, arith, subst}
use Rattle.std.specs.Prelude.{slice_get, if◌then◌else◌, bit_xor}
use Rattle.std.specs.Int.Bits.{xor_assoc, xor_self, xor_zero_r}
use Rattle.std.proofs.lemmas.Nat.{xor_lt}
use Rattle.std.proofs.lemmas.Bool.Decides.{nat_tests}
use Rattle.cap_concentrate.specs.declared.fields.Fields.{Fields}
use Rattle.cap_concentrate.specs.declared.packing.TheConstants.{NULL_BITS}
use Rattle.cap_concentrate.specs.Decoding.{base_of, top_of}
use Rattle.cap_concentrate.specs.Encoding.{encoded_internal, encoded_t, encoded_b, with_bounds}
use Rattle.cap_concentrate.specs.Packing.{bits_of, fields_of, flipped}
use Rattle.cap_concentrate.proofs.Packed.{fields_of-bits_of, bits_of-fields_of}
use Rattle.obj_mem.specs.Values.{Value, Int, Live, Fun, Raw, Addresses, capability_of, bits}
use Rattle.obj_mem.specs.Objects.{Shape, Placed, Strict, base_in}
use Rattle.obj_mem.specs.Pointers.{is_near}
use Rattle.obj_mem.specs.Comparisons.{is_distinct, unequal_where, identical}
use Rattle.obj_mem.specs.Agreement.{Paired, SameShape, Answers}
use Rattle.obj_mem.specs.Standing.{IsBased, IsFitted, IsSettled, IsGood, IsSpread}
use Rattle.obj_mem.proofs.Fitting.{near_decodes}
use Rattle.obj_mem.proofs.Moves.{based}
use Rattle.obj_mem.proofs.Equality.{differ_test, test_true, same_test, both_tests, objects_differ, object_function}

-- ---- tests

same_tests : (b c : Bool) → (b ≡ true → c ≡ true) → (c ≡ true → b ≡ true) → b ≡ c
same_tests true c h k = sym (h refl)
same_tests false true h k = k refl
same_tests false false h k = refl

is_same : (x y : ℕ) → x ≡ y → (x == y) ≡ true
is_same x y e = grind (arith, nat_tests)

-- ---- bits and fields

same_fields_where : (f g : Fields) → f.address < 2 ^ 64 → g.address < 2 ^ 64 → bits_of f ≡ bits_of g → f ≡ g
same_fields_where f g h k e = sym (fields_of-bits_of f h) ∙ ap fields_of e ∙ fields_of-bits_of g k

same_addresses : (f g : Fields) → f.address < 2 ^ 64 → g.address < 2 ^ 64 → bits_of f ≡ bits_of g →
    f.address ≡ g.address
same_addresses f g h k e = ap (λ x. x.address) (same_fields_where f g h k e)

flipped_back : (n : ℕ) → flipped (flipped n) ≡ n
flipped_back n = xor_assoc n NULL_BITS NULL_BITS ∙ ap (bit_xor n) (xor_self NULL_BITS) ∙ xor_zero_r n

raw_bits : (a : Addresses) (base : ℕ → ℕ) (x u : ℕ) → x < 2 ^ 64 → u < 2 ^ 64 →
    bits a base (Raw x u) ≡ flipped (u * 2 ^ 64 + x)
unfolding bits capability_of
raw_bits a base x u h k =
    let n : u * 2 ^ 64 + x < 2 ^ 128 = omega arith in
    let m : NULL_BITS < 2 ^ 128 = omega arith in
    bits_of-fields_of (flipped (u * 2 ^ 64 + x)) (xor_lt 128 (u * 2 ^ 64 + x) NULL_BITS n m)

raw_same : (a : Addresses) (base base' : ℕ → ℕ) (x u y w : ℕ) → x < 2 ^ 64 → u < 2 ^ 64 → y < 2 ^ 64 → w < 2 ^ 64 →
    bits a base (Raw x u) ≡ bits a base' (Raw y w) → (x ≡ y) × (u ≡ w)
raw_same a base base' x u y w hx hu hy hw e =
    let f : flipped (u * 2 ^ 64 + x) ≡ flipped (w * 2 ^ 64 + y) =
    sym (raw_bits a base x u hx hu) ∙ e ∙ raw_bits a base' y w hy hw in
    let n : u * 2 ^ 64 + x ≡ w * 2 ^ 64 + y =
    sym (flipped_back (u * 2 ^ 64 + x)) ∙ ap flipped f ∙ flipped_back (w * 2 ^ 64 + y) in
    (omega arith, omega arith)

-- ---- live values

record LiveFields (base low high at p : ℕ) (f : Fields) : Type 0 where
  internal : f.internal ≡ encoded_internal (base + low) (base + high)
  t : f.t ≡ encoded_t (base + low) (base + high)
  b : f.b ≡ encoded_b (base + low) (base + high)
  address : f.address ≡ (base + at) % 2 ^ 64
  perms : f.perms ≡ p % 4096

live_fields : (a : Addresses) (base : ℕ → ℕ) (o low high at p : ℕ) →
    LiveFields (base o) low high at p (capability_of a base (Live o low high at p)).fields
unfolding capability_of with_bounds
live_fields a base o low high at p = record { internal = refl; t = refl; b = refl; address = refl; perms = refl }

fun_address : (a : Addresses) (base : ℕ → ℕ) (f : ℕ) → (capability_of a base (Fun f)).fields.address ≡ a.entry f
unfolding capability_of with_bounds
fun_address a base f = refl

-- what the fields of a live value decode to
decoded : (base owns long low high at p : ℕ) → IsBased base owns long → IsFitted owns low high → at < 2 ^ 64 →
    is_near low high at ≡ true → (f : Fields) → LiveFields base low high at p f →
    (base_of f.internal f.t f.b f.address ≡ base + low) × (top_of f.internal f.t f.b f.address ≡ base + high)
decoded base owns long low high at p b g w n f l =
    let d = near_decodes base owns long b low high at g w n in
    rw (l.internal, l.t, l.b, l.address) (d.base_is, d.top_is)

module _ (s t : List Shape) (functions : ℕ) (a : Addresses) (same : Paired SameShape s t)
    (sp : IsSpread t functions a) where
  one_object : (o low high at p low' high' at' p' : ℕ) → IsSettled s o low high at p → IsSettled s o low' high' at' p' →
      bits a (base_in t) (Live o low high at p) ≡ bits a (base_in t) (Live o low' high' at' p')
      → (low ≡ low') × (high ≡ high') × (at ≡ at') × (p ≡ p')
  unfolding bits
  one_object o low high at p low' high' at' p' g g' e =
      let base = base_in t o in
      let f = (capability_of a (base_in t) (Live o low high at p)).fields in
      let f' = (capability_of a (base_in t) (Live o low' high' at' p')).fields in
      let l : LiveFields base low high at p f = live_fields a (base_in t) o low high at p in
      let l' : LiveFields base low' high' at' p' f' = live_fields a (base_in t) o low' high' at' p' in
      let b = based s t functions a same sp o low high at p g in
      let b' = based s t functions a same sp o low' high' at' p' g' in
      let h : f.address < 2 ^ 64 = omega (arith, l.address) in
      let h' : f'.address < 2 ^ 64 = omega (arith, l'.address) in
      let q : f ≡ f' = same_fields_where f f' h h' e in
      let d = decoded base g.shape.owned g.shape.length low high at p b g.fitted g.word g.near f l in
      let d' = decoded base g'.shape.owned g'.shape.length low' high' at' p' b' g'.fitted g'.word g'.near f' l' in
      let dl : base_of f.internal f.t f.b f.address ≡ base_of f'.internal f'.t f'.b f'.address =
      ap (λ x. base_of x.internal x.t x.b x.address) q in
      let dh : top_of f.internal f.t f.b f.address ≡ top_of f'.internal f'.t f'.b f'.address =
      ap (λ x. top_of x.internal x.t x.b x.address) q in
      let pa : f.address ≡ f'.address = ap (λ x. x.address) q in
      let pp : f.perms ≡ f'.perms = ap (λ x. x.perms) q in
      let lw : base + low ≡ base + low' = sym d.0 ∙ dl ∙ d'.0 in
      let hg : base + high ≡ base + high' = sym d.1 ∙ dh ∙ d'.1 in
      let ad : (base + at) % 2 ^ 64 ≡ (base + at') % 2 ^ 64 = sym l.address ∙ pa ∙ l'.address in
      let pm : p % 4096 ≡ p' % 4096 = sym l.perms ∙ pp ∙ l'.perms in
      let w = g.word in
      let w' = g'.word in
      let k = g.twelve_bits in
      let k' = g'.twelve_bits in
      (omega arith, omega arith, omega arith, omega arith)

  live_live : (o low high at p o' low' high' at' p' : ℕ) →
      bits a (base_in t) (Live o low high at p) ≡ bits a (base_in t) (Live o' low' high' at' p') →
      (base_in t o + at) % 2 ^ 64 ≡ (base_in t o' + at') % 2 ^ 64
  unfolding bits
  live_live o low high at p o' low' high' at' p' e =
      let l = live_fields a (base_in t) o low high at p in
      let l' = live_fields a (base_in t) o' low' high' at' p' in
      sym l.address ∙ same_addresses _ _ (omega (arith, l.address)) (omega (arith, l'.address)) e ∙ l'.address

  live_fun : (o low high at p f : ℕ) → f < functions →
      bits a (base_in t) (Live o low high at p) ≡ bits a (base_in t) (Fun f) → (base_in t o + at) % 2 ^ 64 ≡ a.entry f
  unfolding bits
  live_fun o low high at p f h e =
      let l = live_fields a (base_in t) o low high at p in
      let x = fun_address a (base_in t) f in
      let i = sp.in_text f h in
      let to = sp.text_to in
      sym l.address ∙ same_addresses _ _ (omega (arith, l.address)) (omega (arith, x, i.1)) e ∙ x

  fun_fun : (f g : ℕ) → f < functions → g < functions → bits a (base_in t) (Fun f) ≡ bits a (base_in t) (Fun g) → f ≡ g
  unfolding bits
  fun_fun f g h k e =
      let x = fun_address a (base_in t) f in
      let y = fun_address a (base_in t) g in
      let i = sp.in_text f h in
      let j = sp.in_text g k in
      let to = sp.text_to in
      sp.distinct f g h k (sym x ∙ same_addresses _ _ (omega (arith, x, i.1)) (omega (arith, y, j.1)) e ∙ y)

  all_equal : (o low high at p low' high' at' p' : ℕ) → (low == low' && high == high' && at == at' && p == p') ≡ true →
      bits a (base_in t) (Live o low high at p) ≡ bits a (base_in t) (Live o low' high' at' p')
  all_equal o low high at p low' high' at' p' e =
      let x = all_tests low low' high high' at at' p p' e in
      ap (λ v. bits a (base_in t) (Live o v high at p)) x.0 ∙ ap (λ v. bits a (base_in t) (Live o low' v at p)) x.1
      ∙ ap (λ v. bits a (base_in t) (Live o low' high' v p)) x.2
      ∙ ap (λ v. bits a (base_in t) (Live o low' high' at' v)) x.3
    where
      all_tests : (x x' y y' z z' u u' : ℕ) → (x == x' && y == y' && z == z' && u == u') ≡ true →
          (x ≡ x') × (y ≡ y') × (z ≡ z') × (u ≡ u')
      all_tests x x' y y' z z' u u' e =
          (grind (arith, nat_tests), grind (arith, nat_tests), grind (arith, nat_tests), grind (arith, nat_tests))

  all_true : (x x' y y' z z' u u' : ℕ) → x ≡ x' → y ≡ y' → z ≡ z' → u ≡ u' →
      (x == x' && y == y' && z == z' && u == u') ≡ true
  all_true x x' y y' z z' u u' e f g h = rw (is_same x x' e, is_same y y' f, is_same z z' g, is_same u u' h) refl

  unequal : (d : Bool) (x y : ℕ) → (d ≡ true → x ≡ y → ⊥) → Answers ◌≡◌ (unequal_where d) (Ok (true && x == y))
  unequal true x y h = sym (differ_test x y (h refl))
  unequal false x y h = tt

  objects : (o low high at p o' low' high' at' p' : ℕ) → IsSettled s o low high at p →
      IsSettled s o' low' high' at' p' → (b : Bool) → (o == o') ≡ b
      → Answers ◌≡◌ (if b then Ok (low == low' && high == high' && at == at' && p == p')
      else (if b then Ok (at == at')
      else unequal_where (is_distinct (slice_get s o) at && is_distinct (slice_get s o') at')))
      (Ok (true && bits a (base_in t) (Live o low high at p) == bits a (base_in t) (Live o' low' high' at' p')))
  objects o low high at p o' low' high' at' p' g g' true e =
      let k = test_true o o' e in
      let g'' = subst (λ x. IsSettled s x low' high' at' p') (sym k) g' in
      subst (λ x. (low == low' && high == high' && at == at' && p == p')
      ≡ (bits a (base_in t) (Live o low high at p) == bits a (base_in t) (Live x low' high' at' p'))) k
      (same_tests _ _ (λ h. is_same _ _ (all_equal o low high at p low' high' at' p' h))
      (λ h. let r = one_object o low high at p low' high' at' p' g g'' (test_true _ _ h) in
      all_true low low' high high' at at' p p' r.0 r.1 r.2 r.3))
  objects o low high at p o' low' high' at' p' g g' false e =
      unequal _ _ _ (λ d q. objects_differ s t functions a same sp o o' at at' e d
      (live_live o low high at p o' low' high' at' p' q))

  pub identical_agrees_law : (v w : Value) → IsGood s functions v → IsGood s functions w →
      Answers ◌≡◌ (identical Strict s v w) (identical (Placed a) t v w)
  identical_agrees_law (Int x) w gv gw = tt
  identical_agrees_law (Live o l h at p) (Int y) gv gw = tt
  identical_agrees_law (Fun f) (Int y) gv gw = tt
  identical_agrees_law (Raw x u) (Int y) gv gw = tt
  identical_agrees_law (Live o l h at p) (Live o' l' h' at' p') gv gw = same_choice (o == o') refl
    where
      same_choice : (b : Bool) → (o == o') ≡ b →
          Answers ◌≡◌ (if b then Ok (l == l' && h == h' && at == at' && p == p')
          else (if b then Ok (at == at')
          else unequal_where (is_distinct (slice_get s o) at && is_distinct (slice_get s o') at')))
          (Ok (true && bits a (base_in t) (Live o l h at p) == bits a (base_in t) (Live o' l' h' at' p')))
      same_choice b e = objects o l h at p o' l' h' at' p' gv gw b e
  identical_agrees_law (Live o l h at p) (Fun f) gv gw =
      unequal _ _ _ (λ d q. object_function s t functions a same sp o at f gw d (live_fun o l h at p f gw q))
  identical_agrees_law (Fun f) (Live o l h at p) gv gw =
      unequal _ _ _ (λ d q. object_function s t functions a same sp o at f gv d (live_fun o l h at p f gv (sym q)))
  identical_agrees_law (Fun f) (Fun g) gv gw =
      same_test f g _ _ (ap (λ x. bits a (base_in t) (Fun x))) (fun_fun f g gv gw)
  identical_agrees_law (Live o l h at p) (Raw y w) gv gw = refl
  identical_agrees_law (Fun f) (Raw y w) gv gw = refl
  identical_agrees_law (Raw x u) (Live o l h at p) gv gw = refl
  identical_agrees_law (Raw x u) (Fun g) gv gw = refl
  identical_agrees_law (Raw x u) (Raw y w) gv gw =
      same_tests _ _ (λ h. let r = both_tests _ _ h in
      is_same _ _ (ap (λ z. bits a (base_in t) (Raw z u)) (test_true x y r.0)
      ∙ ap (λ z. bits a (base_in t) (Raw y z)) (test_true u w r.1)))
      (λ h. let r = raw_same a (base_in t) (base_in t) x u y w gv.0 gv.1 gw.0 gw.1 (test_true _ _ h) in
      rw (is_same x y r.0, is_same u w r.1) refl)

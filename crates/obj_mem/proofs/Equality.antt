-- Equality agrees in both modes.
use Rattle.std.proofs.Common.{◌≡◌, ℕ, ◌+◌, ◌-◌, ◌%◌, ◌^◌, ◌<◌, ◌≤◌, ◌==◌, ◌&&◌, Bool, true, false, not, nat_lt, List}
use Rattle.std.proofs.Common.{Option, Some, Ok, refl, sym, ap, arith, subst, inl, inr}
use Rattle.std.specs.Prelude.{slice_get, if◌then◌else◌}
use Rattle.std.proofs.lemmas.Bool.Decides.{nat_tests}
use Rattle.cap_concentrate.proofs.Owned.{owned_ge}
use Rattle.obj_mem.specs.Values.{Value, Int, Live, Fun, Raw, Addresses}
use Rattle.obj_mem.specs.Objects.{Life, Active, Inactive, Returned, Shape, Placed, Strict, base_of_shape, base_in}
use Rattle.obj_mem.specs.Comparisons.{is_returned, is_inside, is_distinct, is_low, unequal_where, equal}
use Rattle.obj_mem.specs.Legal.{Apart}
use Rattle.obj_mem.specs.Agreement.{Paired, SameShape, SameLife, IsNotReturned, Answers}
use Rattle.obj_mem.specs.Standing.{IsBased, IsSettled, IsGood, IsSpread}
use Rattle.obj_mem.proofs.Pairs.{Both, neither, both, get_both}
use Rattle.obj_mem.proofs.Fitting.{near_lies}
use Rattle.obj_mem.proofs.Moves.{based}

-- ---- tests

pub differ_test : (x y : ℕ) → (x ≡ y → ⊥) → (x == y) ≡ false
differ_test x y h = grind (arith, nat_tests)

pub test_true : (x y : ℕ) → (x == y) ≡ true → x ≡ y
test_true x y e = grind (arith, nat_tests)

pub test_false : (x y : ℕ) → (x == y) ≡ false → x ≡ y → ⊥
test_false x y e = grind (arith, nat_tests)

lt_true : (x y : ℕ) → nat_lt x y ≡ true → x < y
lt_true x y e = grind (arith, nat_tests)

pub same_test : (a b c d : ℕ) → (a ≡ b → c ≡ d) → (c ≡ d → a ≡ b) → (a == b) ≡ (c == d)
same_test a b c d h k = grind (arith, nat_tests)

pub both_tests : (b c : Bool) → (b && c) ≡ true → (b ≡ true) × (c ≡ true)
both_tests true true e = (refl, refl)
both_tests true false e = absurd cc
both_tests false c e = absurd cc

not_true : (b : Bool) → not b ≡ true → b ≡ false
not_true true e = absurd cc
not_true false e = refl

where_true : (b : Bool) (x y : ℕ) → (b ≡ true → x ≡ y → ⊥) → Answers ◌≡◌ (unequal_where b) (Ok (x == y))
where_true true x y h = sym (differ_test x y (h refl))
where_true false x y h = tt

-- ---- what the strict tests say of the placed object
record Found (o : Option Shape) (at : ℕ) : Type 0 where
  shape : Shape
  is : o ≡ Some shape
  within : at < shape.length

record Distinct (o : Option Shape) (at : ℕ) : Type 0 where
  shape : Shape
  is : o ≡ Some shape
  within : at < shape.length
  stands : IsNotReturned shape.life

inside_is : (x y : Option Shape) → Both SameShape x y → (at : ℕ) → is_inside x at ≡ true → Found y at
inside_is x y neither at e = absurd cc
inside_is x y (both g h r) at e =
    let l = lt_true at g.length e in let s = r.length in record { shape = h; is = refl; within = omega (arith, l, s) }

stands_is : (l l' : Life) → SameLife l l' → is_returned l ≡ false → IsNotReturned l'
stands_is Active l' h e = subst IsNotReturned (sym h) tt
stands_is Inactive l' h e = h
stands_is Returned l' h e = absurd cc

distinct_is : (x y : Option Shape) → Both SameShape x y → (at : ℕ) → is_distinct x at ≡ true → Distinct y at
distinct_is x y neither at e = absurd cc
distinct_is x y (both g h r) at e =
    let t = both_tests _ _ e in
    let l = lt_true at g.length t.0 in
    let s = r.length in
    record {
      shape = h;
      is = refl;
      within = omega (arith, l, s);
      stands = stands_is g.life h.life r.life (not_true _ t.1);
    }

-- the address of a place inside a placed object
record Lies (s : Shape) (at a : ℕ) : Type 0 where
  is : a ≡ s.base + at
  below : a < s.base + s.owned

lies : (s : Shape) → IsBased s.base s.owned s.length → (o : Option Shape) → o ≡ Some s → (at : ℕ) → at < s.length →
    Lies s at ((base_of_shape o + at) % 2 ^ 64)
lies s p o is at l =
    let w = p.owned_is in
    let t = p.to in
    let g = owned_ge s.length in
    let e : base_of_shape o ≡ s.base = ap base_of_shape is in
    rw e (record { is = omega (arith, w, g); below = omega (arith, w, g) })

apart_differ : (s t : Shape) (at at' a b : ℕ) → Lies s at a → Lies t at' b → Apart s.base s.owned t.base t.owned →
    a ≡ b → ⊥
apart_differ s t at at' a b la lb (inl x) e =
    let p = la.is in let q = lb.is in let r = la.below in let z = lb.below in omega (arith, p, q, r, z)
apart_differ s t at at' a b la lb (inr x) e =
    let p = la.is in let q = lb.is in let r = la.below in let z = lb.below in omega (arith, p, q, r, z)

off_text_differ : (s : Shape) (at a text text_end b : ℕ) → Lies s at a → text ≤ b → b < text_end →
    Apart s.base s.owned text (text_end - text) → a ≡ b → ⊥
off_text_differ s at a text text_end b l x y (inl z) e = let p = l.is in let r = l.below in omega (arith, p, r)
off_text_differ s at a text text_end b l x y (inr z) e = let p = l.is in let r = l.below in omega (arith, p, r)

module _ (s t : List Shape) (functions : ℕ) (a : Addresses) (same : Paired SameShape s t)
    (sp : IsSpread t functions a) where
  pair : (o : ℕ) → Both SameShape (slice_get s o) (slice_get t o)
  pair o = get_both SameShape o s t same

  -- two objects where both pointers are inside and none has returned
  pub objects_differ : (o o' at at' : ℕ) → (o == o') ≡ false →
      (is_distinct (slice_get s o) at && is_distinct (slice_get s o') at') ≡ true →
      (base_in t o + at) % 2 ^ 64 ≡ (base_in t o' + at') % 2 ^ 64 → ⊥
  objects_differ o o' at at' e d =
      let q = both_tests _ _ d in
      let x = distinct_is _ _ (pair o) at q.0 in
      let y = distinct_is _ _ (pair o') at' q.1 in
      apart_differ x.shape y.shape at at' _ _ (lies x.shape (sp.placed o x.shape x.is) _ x.is at x.within)
      (lies y.shape (sp.placed o' y.shape y.is) _ y.is at' y.within)
      (sp.apart o o' x.shape y.shape x.is y.is (test_false o o' e) x.stands y.stands)

  pub object_function : (o at f : ℕ) → f < functions → is_inside (slice_get s o) at ≡ true →
      (base_in t o + at) % 2 ^ 64 ≡ a.entry f → ⊥
  object_function o at f l e =
      let x = inside_is _ _ (pair o) at e in
      off_text_differ x.shape at _ a.text a.text_end (a.entry f)
      (lies x.shape (sp.placed o x.shape x.is) _ x.is at x.within) (sp.in_text f l).0 (sp.in_text f l).1
      (sp.off_text o x.shape x.is)

  object_high : (o low high at p x : ℕ) → IsSettled s o low high at p → is_low x ≡ true →
      (base_in t o + at) % 2 ^ 64 ≡ x → ⊥
  object_high o low high at p x g e q =
      let b = based s t functions a same sp o low high at p g in
      let f = g.fitted in
      let z = near_lies (base_in t o) g.shape.owned low high at b.from b.to f.ordered f.inside g.word g.near in
      let n = lt_true x 64512 e in
      let d = b.from in
      omega (arith, z.0)

  function_high : (f x : ℕ) → f < functions → is_low x ≡ true → a.entry f ≡ x → ⊥
  function_high f x l e q =
      let n = lt_true x 64512 e in let d = (sp.in_text f l).0 in let c = sp.text_from in omega arith

  objects : (o o' at at' : ℕ) → at < 2 ^ 64 → at' < 2 ^ 64 → (b : Bool) → (o == o') ≡ b
      → Answers ◌≡◌ (if b then Ok (at == at')
      else unequal_where (is_distinct (slice_get s o) at && is_distinct (slice_get s o') at'))
      (Ok ((base_in t o + at) % 2 ^ 64 == (base_in t o' + at') % 2 ^ 64))
  objects o o' at at' w w' true e =
      let k : o ≡ o' = test_true o o' e in
      rw (← k) (same_test at at' ((base_in t o + at) % 2 ^ 64) ((base_in t o + at') % 2 ^ 64)
      (λ q. ap (λ v. (base_in t o + v) % 2 ^ 64) q) (λ q. omega (arith, q)))
  objects o o' at at' w w' false e = where_true _ _ _ (λ d. objects_differ o o' at at' e d)

  pub equal_agrees_law : (v w : Value) → IsGood s functions v → IsGood s functions w →
      Answers ◌≡◌ (equal Strict s v w) (equal (Placed a) t v w)
  equal_agrees_law (Int x) w gv gw = tt
  equal_agrees_law (Live o l h at p) (Int x) gv gw = tt
  equal_agrees_law (Fun f) (Int x) gv gw = tt
  equal_agrees_law (Raw x u) (Int y) gv gw = tt
  equal_agrees_law (Live o l h at p) (Live o' l' h' at' p') gv gw = objects o o' at at' gv.word gw.word (o == o') refl
  equal_agrees_law (Live o l h at p) (Fun f) gv gw = where_true _ _ _ (object_function o at f gw)
  equal_agrees_law (Fun f) (Live o l h at p) gv gw = where_true _ _ _ (λ e q. object_function o at f gv e (sym q))
  equal_agrees_law (Live o l h at p) (Raw x u) gv gw = where_true _ _ _ (object_high o l h at p x gv)
  equal_agrees_law (Raw x u) (Live o l h at p) gv gw = where_true _ _ _ (λ e q. object_high o l h at p x gw e (sym q))
  equal_agrees_law (Fun f) (Raw x u) gv gw = where_true _ _ _ (function_high f x gv)
  equal_agrees_law (Raw x u) (Fun f) gv gw = where_true _ _ _ (λ e q. function_high f x gw e (sym q))
  equal_agrees_law (Fun f) (Fun g) gv gw = same_test f g (a.entry f) (a.entry g) (ap a.entry) (sp.distinct f g gv gw)
  equal_agrees_law (Raw x u) (Raw y w) gv gw = refl

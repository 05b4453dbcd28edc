-- The room of a program is what its objects need, since each has a complete type within the limit of sizes.
use Rattle.std.proofs.Common.{◌≡◌, ℕ, zero, suc, ◌+◌, ◌<◌, ◌≤◌, Bool, true, false, List, [], ◌∷◌, length, map, Option}
use Rattle.std.proofs.Common.{Some, refl, sym, ap, ◌∙◌, arith, inl}
use Rattle.std.specs.Prelude.{slice_get, sum_by, nat_lt, ◌||◌, if◌then◌else◌}
use Rattle.std.specs.List.{filter, list_any}
use Rattle.std.proofs.lemmas.Bool.{false≢true, le-leb, le-ltb, ltb-false, or_parts}
use Rattle.std.proofs.lemmas.List.Sums.{sum_by-cons}
use Rattle.ck_base.specs.declared.refusal.Refusal.{Refusal}
use Rattle.ck_base.specs.declared.refusal.Refusal.TheVariants.{Code, NoMemory}
use Rattle.cap_ops.specs.Permissions.{data_permissions, const_permissions}
use Rattle.c_tree.specs.declared.typed.CType.{CType}
use Rattle.c_tree.specs.declared.typed.FunDef.{FunDef}
use Rattle.c_tree.specs.declared.typed.GlobalDef.{GlobalDef}
use Rattle.c_tree.specs.declared.typed.Literal.{Literal}
use Rattle.c_tree.specs.declared.typed.Typed.{Typed}
use Rattle.c_tree.specs.declared.typed.VarDef.{VarDef}
use Rattle.c_tree.specs.File.{object_room, global_room, literal_room, static_room, var_room, local_room, HasRoom}
use Rattle.c_tree.specs.Layout.{Extent, extent, size_limit}
use Rattle.c_tree.specs.Terms.{Program}
use Rattle.c_tree.specs.TreeLayout.{tree_extent}
use Rattle.c_tree.specs.Typing.{Sound}
use Rattle.c_tree.specs.Views.{Shows, IsOrdered}
use Rattle.c_tree.specs.WellTyped.{WellTyped, IsComplete, type_in}
use Rattle.c_tree.proofs.ViewLayout.{extent_is}
use Rattle.typing_laws.proofs.Sound.{well_typed}
use Rattle.obj_mem.specs.Legal.{owned_of, alignment_of, room_of}
use Rattle.obj_mem.specs.Needs.{need_by, is_const, global_need, literal_need, local_need, local_needs, is_object}
use Rattle.bounds_place.specs.Placing.{locals_exceed, data_room, exceeds, IsRefusal as ExceedsLimit}
use Rattle.typed_build.specs.Built.{IsRefusal}

-- ---- sums over objects

-- a type has an extent within the limit
abbrev HasSize : List CType → ℕ → Type 0
HasSize types t = (x : Extent) × (extent types t ≡ Some x) × (x.size ≤ size_limit)

need_room : (o : Option Extent) (x : Extent) (permissions : ℕ) → o ≡ Some x → x.size ≤ size_limit →
    owned_of (need_by o permissions) + alignment_of (need_by o permissions) ≡ object_room o
need_room o x permissions e h = rw e (rw (le-leb x.size size_limit h) refl)

globals_room : (types : List CType) (gs : List GlobalDef) →
    ((k : ℕ) (g : GlobalDef) → slice_get gs k ≡ Some g → HasSize types g.of) →
    sum_by (global_room types) gs ≡ room_of (map (global_need types) gs)
globals_room types [] h = refl
globals_room types (g ∷ gs) h =
    let a = h 0 g refl in
    let one = need_room (extent types g.of) a.0
    (if is_const types g.of then const_permissions else data_permissions) a.1 a.2 in
    omega (arith, sum_by-cons (global_room types) g gs, one, globals_room types gs (λ k. h (suc k)))

literals_room : (ls : List Literal) → sum_by literal_room ls ≡ room_of (map literal_need ls)
literals_room [] = refl
literals_room (l ∷ ls) =
    let one : literal_room l ≡ owned_of (literal_need l) + alignment_of (literal_need l) = refl in
    omega (arith, sum_by-cons literal_room l ls, one, literals_room ls)

locals_room : (types : List CType) (vs : List VarDef) →
    ((k : ℕ) (v : VarDef) → slice_get vs k ≡ Some v → HasSize types v.of) →
    sum_by (var_room types) vs ≡ room_of (map (local_need types) (filter is_object vs))
locals_room types [] h = refl
locals_room types (v ∷ vs) h =
    sum_by-cons (var_room types) v vs ∙ go v.simple refl (locals_room types vs (λ k. h (suc k)))
  where
    go : (b : Bool) → v.simple ≡ b →
        sum_by (var_room types) vs ≡ room_of (map (local_need types) (filter is_object vs)) →
        var_room types v + sum_by (var_room types) vs ≡ room_of (map (local_need types) (filter is_object (v ∷ vs)))
    go true e r = rw e (omega (arith, r))
    go false e r =
        let a = h 0 v refl in
        let one = need_room (extent types v.of) a.0 data_permissions a.1 a.2 in
        rw e (omega (arith, one, r))

-- ---- tests

or_both : (a b : Bool) → a ≡ false → b ≡ false → (a || b) ≡ false
or_both a b e f = rw (e, f) refl

any_none : {X : Type 0} (test : X → Bool) (xs : List X) → list_any test xs ≡ false → (k : ℕ) (x : X) →
    slice_get xs k ≡ Some x → test x ≡ false
any_none test [] e k x g = absurd cc
any_none test (y ∷ ys) e zero x g =
    let s : y ≡ x = cc in
    ap test (sym s) ∙ (or_parts (test y) (list_any test ys) e).0
any_none test (y ∷ ys) e (suc k) x g = any_none test ys (or_parts (test y) (list_any test ys) e).1 k x g

none_any : {X : Type 0} (test : X → Bool) (xs : List X) → ((k : ℕ) (x : X) → slice_get xs k ≡ Some x → test x ≡ false) →
    list_any test xs ≡ false
none_any test [] h = refl
none_any test (y ∷ ys) h = or_both (test y) (list_any test ys) (h 0 y refl) (none_any test ys (λ k. h (suc k)))

-- ---- the program

module _ (p : Typed) (q : Program) (o : IsOrdered p) (s : Shows p q) (w : WellTyped p) where
  own_extent : (t : ℕ) → t < length p.types → IsComplete p (type_in p t) → HasSize p.types t
  own_extent t lt c =
      let h = c.1 in
      let here = extent_is p q o s 0 t lt in
      let there = extent_is p q o s 0 h.number h.there in
      (c.0, here ∙ sym (ap (tree_extent (length p.types + 0) q.tags) h.is) ∙ sym there ∙ h.extent_is, h.within)

  statics : static_room p ≡ data_room p
  statics =
      let a = globals_room p.types p.globals (λ k g e. let f = w.globals k g e in (f.extent, f.own, f.complete.within))
      in
      omega (arith, a, literals_room p.literals)

  locals : (k : ℕ) (f : FunDef) → slice_get p.funs k ≡ Some f → local_room p.types f ≡ room_of (local_needs p.types f)
  locals k f e = locals_room p.types f.vars (λ j v g.
      own_extent v.of (o.vars k j f v e g) ((w.funs k f e).vars_complete j v g))

  room_within : exceeds p ≡ false → HasRoom p
  room_within e =
      let r = or_parts (nat_lt size_limit (data_room p)) (list_any (locals_exceed p.types) p.funs) e in
      record {
        statics = omega (arith, statics, ltb-false size_limit (data_room p) r.0);
        locals = λ f k g. omega (
          arith,
          locals k f g,
          ltb-false size_limit (room_of (local_needs p.types f))
              (any_none (locals_exceed p.types) p.funs r.1 k f g),
        );
      }

  within_room : HasRoom p → exceeds p ≡ false
  within_room h =
      or_both _ _ (le-ltb size_limit (data_room p) (omega (arith, statics, h.statics)))
      (none_any (locals_exceed p.types) p.funs
      (λ k f g. le-ltb size_limit (room_of (local_needs p.types f))
      (omega (arith, locals k f g, h.locals f k g))))

-- a sound program has room exactly where it is not over the limit
pub has_room : (p : Typed) → Sound p → exceeds p ≡ false → HasRoom p
has_room p h e = let t = h.types.types in room_within p t.program t.ordered t.shows (well_typed p h) e

pub has_no_room : (p : Typed) → Sound p → exceeds p ≡ true → HasRoom p → ⊥
has_no_room p h e r =
    let t = h.types.types in
    false≢true (sym (within_room p t.program t.ordered t.shows (well_typed p h) r) ∙ e)

-- so it is refused by the limit where it has none
pub no_room : (p : Typed) → Sound p → (e : Refusal) → ExceedsLimit p e → IsRefusal p e
no_room p h (Code code pos) e = (λ i. record { line = e.1.0 i; col = e.1.1 i }, inl (e.0, has_no_room p h e.2))
no_room p h NoMemory e = tt

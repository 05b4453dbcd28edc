-- What a typed program and a legal map for it give.
use Rattle.std.proofs.Common.{◌≡◌, ℕ, zero, suc, ◌+◌, ◌-◌, ◌%◌, ◌^◌, ◌<◌, ◌≤◌, Bool, true, false, List, [], ◌∷◌, length}
use Rattle.std.proofs.Common.{map, Option, Some, refl, sym, ap, ◌∙◌, subst, inl, inr, arith}
use Rattle.std.specs.Prelude.{slice_get, if◌then◌else◌}
use Rattle.std.specs.List.{filter}
use Rattle.std.proofs.lemmas.Bool.{cases_lt, le-leb}
use Rattle.std.proofs.lemmas.Nat.{pow-add}
use Rattle.std.proofs.Math.Nat.{mul-mod_left}
use Rattle.std.proofs.Math.Pow.{pow-lt}
use Rattle.cap_concentrate.specs.Rounding.{alignment, owned}
use Rattle.cap_concentrate.proofs.Owned.{alignment_power}
use Rattle.cap_ops.specs.Permissions.{data_permissions, const_permissions}
use Rattle.c_tree.specs.declared.typed.CType.{CType}
use Rattle.c_tree.specs.declared.typed.FunDef.{FunDef}
use Rattle.c_tree.specs.declared.typed.GlobalDef.{GlobalDef}
use Rattle.c_tree.specs.declared.typed.Literal.{Literal}
use Rattle.c_tree.specs.declared.typed.Typed.{Typed}
use Rattle.c_tree.specs.declared.typed.VarDef.{VarDef}
use Rattle.c_tree.specs.Layout.{Extent, extent, size_limit}
use Rattle.c_tree.specs.Terms.{Program}
use Rattle.c_tree.specs.TreeLayout.{tree_extent}
use Rattle.c_tree.specs.Views.{Shows, IsOrdered}
use Rattle.c_tree.specs.WellTyped.{WellTyped, HasExtent, type_in}
use Rattle.c_tree.proofs.ViewLayout.{extent_is}
use Rattle.obj_mem.specs.declared.map.Map.{Map}
use Rattle.obj_mem.specs.declared.map.Frame.{Frame}
use Rattle.obj_mem.specs.declared.map.Slot.{Slot}
use Rattle.obj_mem.specs.Legal.{Apart, slot_of, IsSlot, IsFrame, AreFrames, IsLegal}
use Rattle.obj_mem.specs.Needs.{is_const, need_by, global_need, literal_need, local_need, is_object, function_needs}
use Rattle.obj_mem.specs.Needs.{needs_of}
use Rattle.obj_mem.proofs.Powers.{length_aligned, need_power}
use Rattle.cheri_c_sem.specs.Types.{size_of_extent, size_in}
use Rattle.cheri_c_sem.specs.Modes.{slot_offset}
use Rattle.cheri_c_sem.specs.Programs.{lengths_of, global_tree, function_tree, function_trees}
use Rattle.cheri_c_sem.specs.Tree as tree
use Rattle.placement.specs.Memories.{local_at, LocalFits, FrameFits, FramesFit}
use Rattle.placement.proofs.Lists.{map_from}
use Rattle.placement.proofs.Objects.{length_of}
use Rattle.placement.proofs.Lawful.{length_needed}

-- ---- lengths

abbrev HasSize : List CType → ℕ → Type 0
HasSize types t = (x : Extent) × (extent types t ≡ Some x) × (x.size ≤ size_limit)

need_length : (o : Option Extent) (x : Extent) (permissions : ℕ) → o ≡ Some x → x.size ≤ size_limit
    → (need_by o permissions).length ≡ size_of_extent o
need_length o x permissions e h = rw e (rw (le-leb x.size size_limit h) refl)

globals_lengths : (p : Typed) (gs : List GlobalDef)
    → ((k : ℕ) (g : GlobalDef) → slice_get gs k ≡ Some g → HasSize p.types g.of)
    → map length_of (map (global_tree p) gs) ≡ map length_needed (map (global_need p.types) gs)
globals_lengths p [] h = refl
globals_lengths p (g ∷ gs) h =
    let a = h 0 g refl in
    let one : (global_need p.types g).length ≡ size_in p.types g.of =
    need_length (extent p.types g.of) a.0 (if is_const p.types g.of then const_permissions else data_permissions)
    a.1 a.2 in
    ap (λ v. v ∷ map length_of (map (global_tree p) gs)) (sym one) ∙ ap (λ vs. (global_need p.types g).length ∷ vs)
    (globals_lengths p gs (λ k. h (suc k)))

pub literals_lengths : (ls : List Literal) → map length (map (λ (s : Literal). s.bytes) ls) ≡ map length_needed
    (map literal_need ls)
literals_lengths [] = refl
literals_lengths (l ∷ ls) = ap (λ vs. length l.bytes ∷ vs) (literals_lengths ls)

locals_lengths : (p : Typed) (vs : List VarDef)
    → ((k : ℕ) (v : VarDef) → slice_get vs k ≡ Some v → HasSize p.types v.of)
    → map length_needed (map (local_need p.types) (filter is_object vs)) ≡ lengths_of p vs
locals_lengths p [] h = refl
locals_lengths p (v ∷ vs) h = go v.simple refl (locals_lengths p vs (λ k. h (suc k)))
  where
    go : (b : Bool) → v.simple ≡ b → map length_needed (map (local_need p.types) (filter is_object vs)) ≡ lengths_of
        p vs
        → map length_needed (map (local_need p.types) (filter is_object (v ∷ vs))) ≡ lengths_of p (v ∷ vs)
    go true e r = rw e r
    go false e r =
        let a = h 0 v refl in
        let one : (local_need p.types v).length ≡ size_in p.types v.of =
        need_length (extent p.types v.of) a.0 data_permissions a.1 a.2 in
        rw e (ap (λ n. n ∷ map length_needed (map (local_need p.types) (filter is_object vs))) one ∙ ap
        (λ ns. size_in p.types v.of ∷ ns) r)

pub functions_count : (p : Typed) (weight : ℕ → ℕ) (fs : List FunDef) (j k : ℕ)
    → length (function_trees p j fs) ≡ length (function_needs p.types weight k fs)
functions_count p weight [] j k = refl
functions_count p weight (f ∷ fs) j k = ap suc (functions_count p weight fs (suc j) (suc k))

-- ---- frames

power_divides : (j k : ℕ) → 2 ^ j ≤ 2 ^ k → 2 ^ k % 2 ^ j ≡ 0
power_divides j k h =
    let le : j ≤ k = elim (cases_lt k j) as (λ _. j ≤ k) [
      | inl below ↦ absurd (omega (arith, pow-lt below, h))
      | inr fine ↦ fine
    ] in
    let is : k ≡ (k - j) + j = omega arith in
    ap (λ v. 2 ^ v % 2 ^ j) is ∙ ap (λ v. v % 2 ^ j) (pow-add 2 (k - j) j) ∙ mul-mod_left (2 ^ (k - j)) (2 ^ j)

-- the slot of a local
record Found (types : List CType) (vs : List VarDef) (f : Frame) (n len : ℕ) : Type 0 where
  var : VarDef
  slot : Slot
  is : slot_of f n ≡ Some slot
  fits : IsSlot (local_need types var) f slot
  long : (local_need types var).length ≡ len

module _ (p : Typed) (vars : List VarDef) (weight : ℕ) (f : Frame)
    (frame : IsFrame (record { locals = map (local_need p.types) (filter is_object vars); weight = weight }) f)
    (lengths : map length_needed (map (local_need p.types) (filter is_object vars)) ≡ lengths_of p vars) where
  found : (n len : ℕ) → slice_get (lengths_of p vars) n ≡ Some len → Found p.types vars f n len
  found n len e =
      let a = map_from length_needed (map (local_need p.types) (filter is_object vars)) n len
      (subst (λ v. slice_get v n ≡ Some len) (sym lengths) e) in
      let b = map_from (local_need p.types) (filter is_object vars) n a.0 a.1 in
      let s = frame.has_slot n a.0 a.1 in
      record {
        var = b.0;
        slot = s.0;
        is = s.1;
        fits = subst (λ o. IsSlot o f s.0) (sym b.2) s.2;
        long = ap length_needed b.2 ∙ a.2;
      }

  local_fits : (n len : ℕ) → slice_get (lengths_of p vars) n ≡ Some len → LocalFits f n len
  local_fits n len e =
      let x = found n len e in
      let o = local_need p.types x.var in
      let at : local_at f n ≡ x.slot.at = ap slot_offset x.is in
      let s = x.fits in
      let w = s.within in
      let l = s.length in
      let al = alignment_power o.length in
      let k = frame.power in
      let most = s.alignment in
      let le : alignment o.length ≤ f.align = omega (arith, most) in
      let own : x.slot.length ≡ owned len = l ∙ ap owned x.long in
      record {
        within = omega (arith, at, w, own);
        aligned = subst (λ v. local_at f n % alignment v ≡ 0) x.long
            (subst (λ v. v % alignment o.length ≡ 0) (sym at)
            (length_aligned o (need_power p.types x.var.of data_permissions) x.slot.at s.aligned));
        frame_aligned = subst (λ v. f.align % alignment v ≡ 0) x.long
            (subst (λ v. f.align % v ≡ 0) (sym al.2)
            (subst (λ v. v % 2 ^ al.0 ≡ 0) (sym k.1)
            (power_divides al.0 k.0 (subst (λ v. v ≤ 2 ^ k.0) al.2
            (subst (λ v. alignment o.length ≤ v) k.1 le)))));
      }

  locals_apart : (n n' len len' : ℕ) → slice_get (lengths_of p vars) n ≡ Some len
      → slice_get (lengths_of p vars) n' ≡ Some len' → (n ≡ n' → ⊥)
      → Apart (local_at f n) (owned len) (local_at f n') (owned len')
  locals_apart n n' len len' e e' d =
      let x = found n len e in
      let y = found n' len' e' in
      let a = frame.apart n n' x.slot y.slot x.is y.is d in
      let own : x.slot.length ≡ owned len = x.fits.length ∙ ap owned x.long in
      let own' : y.slot.length ≡ owned len' = y.fits.length ∙ ap owned y.long in
      let at : local_at f n ≡ x.slot.at = ap slot_offset x.is in
      let at' : local_at f n' ≡ y.slot.at = ap slot_offset y.is in
      subst (λ v. Apart (local_at f n) (owned len) v (owned len')) (sym at')
      (subst (λ v. Apart v (owned len) y.slot.at (owned len')) (sym at)
      (subst (λ v. Apart x.slot.at v y.slot.at (owned len')) own
      (subst (λ v. Apart x.slot.at x.slot.length y.slot.at v) own' a)))

  frame_fits : FrameFits (lengths_of p vars) f
  frame_fits = let l = frame.align in record { some = omega arith; locals = local_fits; apart = locals_apart }

-- function i of the tree, with its definition and its frame
frame_from : (p : Typed) (weight : ℕ → ℕ) (fs : List FunDef) (frames : List Frame) (j k : ℕ)
    → AreFrames (function_needs p.types weight k fs) frames
    → ((i : ℕ) (d : FunDef) → slice_get fs i ≡ Some d
    → map length_needed (map (local_need p.types) (filter is_object d.vars)) ≡ lengths_of p d.vars)
    → (i : ℕ) (f : tree.Fun) (g : Frame) → slice_get (function_trees p j fs) i ≡ Some f → slice_get frames i ≡ Some g
    → FrameFits f.objects g
frame_from p weight [] frames j k a h i f g e q = absurd cc
frame_from p weight (d ∷ fs) [] j k a h i f g e q = absurd a
frame_from p weight (d ∷ fs) (r ∷ frames) j k a h zero f g e q =
    let s : function_tree p j d ≡ f = cc in
    let t : r ≡ g = cc in
    subst (λ z. FrameFits z.objects g) s
    (subst (FrameFits (lengths_of p d.vars)) t (frame_fits p d.vars (weight k) r a.0 (h 0 d refl)))
frame_from p weight (d ∷ fs) (r ∷ frames) j k a h (suc i) f g e q = frame_from p weight fs frames (suc j) (suc k) a.1
    (λ n x y. h (suc n) x y) i f g e q

-- ---- a typed program

module _ (p : Typed) (q : Program) (o : IsOrdered p) (s : Shows p q) (w : WellTyped p) where
  -- the extent of a type that stands at more than one number
  pub own_is : (t : ℕ) → t < length p.types → (x : Extent) → HasExtent p (type_in p t) x → extent p.types t ≡ Some x
  own_is t lt x h =
      let here = extent_is p q o s 0 t lt in
      let there = extent_is p q o s 0 h.number h.there in
      here ∙ sym (ap (tree_extent (length p.types + 0) q.tags) h.is) ∙ sym there ∙ h.extent_is

  pub globals_same_lengths : map length_of (map (global_tree p) p.globals) ≡ map length_needed
      (map (global_need p.types) p.globals)
  globals_same_lengths = globals_lengths p p.globals
      (λ k g e. let f = w.globals k g e in (f.extent, f.own, f.complete.within))

  locals_same_lengths : (i : ℕ) (d : FunDef) → slice_get p.funs i ≡ Some d
      → map length_needed (map (local_need p.types) (filter is_object d.vars)) ≡ lengths_of p d.vars
  locals_same_lengths i d e = locals_lengths p d.vars (λ j v g.
      let c = (w.funs i d e).vars_complete j v g in (c.0, own_is v.of (o.vars i j d v e g) c.0 c.1, c.1.within))

  pub frames_fit : (weight : ℕ → ℕ) (m : Map) → IsLegal (needs_of weight p) m
      → FramesFit (function_trees p 0 p.funs) m.frames
  frames_fit weight m legal i f g e r = frame_from p weight p.funs m.frames 0 0 legal.frames locals_same_lengths i f
      g e r

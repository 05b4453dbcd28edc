-- The objects of the functions of a typed program are those that it asks its map for.
use Rattle.std.proofs.Common.{◌≡◌, ℕ, zero, suc, ◌%◌, ◌≤◌, Bool, true, false, List, [], ◌∷◌, map, Option, Some, refl}
use Rattle.std.proofs.Common.{sym, ap, subst, ◌∙◌, ◌*◌, arith}
use Rattle.std.specs.List.{filter}
use Rattle.std.specs.Prelude.{slice_get}
use Rattle.std.proofs.lemmas.Bool.{le-leb}
use Rattle.std.proofs.Math.Nat.{mul-mod_left}
use Rattle.cap_concentrate.specs.Rounding.{alignment}
use Rattle.cap_ops.specs.Permissions.{data_permissions}
use Rattle.c_tree.specs.Layout.{Extent, extent, size_limit}
use Rattle.c_tree.specs.Terms.{Program}
use Rattle.c_tree.specs.Views.{Shows, IsOrdered}
use Rattle.c_tree.specs.WellTyped.{WellTyped}
use Rattle.c_tree.specs.declared.typed.CType.{CType}
use Rattle.c_tree.specs.declared.typed.FunDef.{FunDef}
use Rattle.c_tree.specs.declared.typed.Typed.{Typed}
use Rattle.c_tree.specs.declared.typed.VarDef.{VarDef}
use Rattle.obj_mem.specs.Legal.{ObjectNeed, FunctionNeed, alignment_of}
use Rattle.obj_mem.specs.Needs.{need_by, local_need, is_object, function_needs, needs_of}
use Rattle.obj_mem.proofs.Powers.{length_aligned, need_power}
use Rattle.cheri_c_sem.specs.Programs.{lengths_of, function_trees, program_tree}
use Rattle.cheri_c_sem.specs.Types.{size_in, size_of_extent}
use Rattle.placement.proofs.TypedFits.{own_is}
use Rattle.tac_ir.specs.Meaning.{objects_of, objects_in}
use Rattle.lower_runs.specs.Frames.{AreNeeded}
use Rattle.lower_runs.proofs.Placed.{same_some}

abbrev pub HasSize : List CType → ℕ → Type 0
HasSize types t = (x : Extent) × (extent types t ≡ Some x) × (x.size ≤ size_limit)

pub need_length : (o : Option Extent) (x : Extent) (permissions : ℕ) → o ≡ Some x → x.size ≤ size_limit →
    (need_by o permissions).length ≡ size_of_extent o
need_length o x permissions e h = rw e (rw (le-leb x.size size_limit h) refl)

-- an object of this length is needed
abbrev IsNeeded : List ObjectNeed → ℕ → ℕ → Type 0
IsNeeded ns n long = (o : ObjectNeed) × (slice_get ns n ≡ Some o) × (o.length ≡ long) ×
    (alignment_of o % alignment o.length ≡ 0)

multiple_itself : (n : ℕ) → n % n ≡ 0
multiple_itself n = let e : n ≡ 1 * n = omega arith in ap (λ z. z % n) e ∙ mul-mod_left 1 n

module _ (p : Typed) where
  locals_needed : (vs : List VarDef) → ((k : ℕ) (v : VarDef) → slice_get vs k ≡ Some v → HasSize p.types v.of) →
      (n long : ℕ) → slice_get (lengths_of p vs) n ≡ Some long →
      IsNeeded (map (local_need p.types) (filter is_object vs)) n long
  locals_needed [] h n long e = absurd cc
  locals_needed (v ∷ vs) h n long e = by v.simple refl (locals_needed vs (λ k. h (suc k)))
    where
      object : (i : ℕ) → slice_get (size_in p.types v.of ∷ lengths_of p vs) i ≡ Some long →
          ((j l : ℕ) → slice_get (lengths_of p vs) j ≡ Some l →
          IsNeeded (map (local_need p.types) (filter is_object vs)) j l)
          → IsNeeded (local_need p.types v ∷ map (local_need p.types) (filter is_object vs)) i long
      object zero e rest =
          let a = h 0 v refl in (
            local_need p.types v,
            refl,
            need_length (extent p.types v.of) a.0 data_permissions a.1 a.2 ∙ same_some _ long e,
            length_aligned (local_need p.types v) (need_power p.types v.of data_permissions)
                (alignment_of (local_need p.types v)) (multiple_itself (alignment_of (local_need p.types v))),
          )
      object (suc i) e rest = rest i long e

      by : (b : Bool) → v.simple ≡ b → ((j l : ℕ) → slice_get (lengths_of p vs) j ≡ Some l →
          IsNeeded (map (local_need p.types) (filter is_object vs)) j l)
          → IsNeeded (map (local_need p.types) (filter is_object (v ∷ vs))) n long
      by true is rest = rw is (rest n long (rw is at e))
      by false is rest = rw is (object n (rw is at e) rest)

  -- a function by its number, with what it needs and its objects
  record Found (f : ℕ) (fs : List FunDef) (need : FunctionNeed) (objects : List ℕ) : Type 0 where
    def : FunDef
    there : slice_get fs f ≡ Some def
    locals : need.locals ≡ map (local_need p.types) (filter is_object def.vars)
    lengths : objects ≡ lengths_of p def.vars

  found : (weight : ℕ → ℕ) (fs : List FunDef) (j k f : ℕ) (need : FunctionNeed) →
      slice_get (function_needs p.types weight k fs) f ≡ Some need →
      Found f fs need (objects_of (slice_get (function_trees p j fs) f))
  found weight [] j k f need e = absurd cc
  found weight (d ∷ fs) j k zero need e = record {
    def = d;
    there = refl;
    locals = ap (λ (z : FunctionNeed). z.locals) (same_some need _ (sym e));
    lengths = refl;
  }
  found weight (d ∷ fs) j k (suc f) need e =
      let r = found weight fs (suc j) (suc k) f need e in
      record { def = r.def; there = r.there; locals = r.locals; lengths = r.lengths }

-- ---- a typed program

module _ (p : Typed) (q : Program) (o : IsOrdered p) (s : Shows p q) (w : WellTyped p) where
  pub vars_sized : (i : ℕ) (d : FunDef) → slice_get p.funs i ≡ Some d → (k : ℕ) (v : VarDef) →
      slice_get d.vars k ≡ Some v → HasSize p.types v.of
  vars_sized i d e k v g =
      let c = (w.funs i d e).vars_complete k v g in
      (c.0, own_is p q o s w v.of (o.vars i k d v e g) c.0 c.1, c.1.within)

  pub objects_needed : (weight : ℕ → ℕ) → AreNeeded (needs_of weight p) (objects_in (program_tree p))
  unfolding program_tree
  objects_needed weight = record {
    needed = λ f n long need e l.
        let r = found p weight p.funs 0 0 f need e in
        let x = locals_needed p r.def.vars (vars_sized f r.def r.there) n long
        (subst (λ z. slice_get z n ≡ Some long) r.lengths l) in
        (x.0, ap (λ z. slice_get z n) r.locals ∙ x.1, x.2, x.3);
  }

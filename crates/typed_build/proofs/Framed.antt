-- A function's frame in a legal map holds its locals, past what it saves.
use Rattle.std.proofs.Common.{◌≡◌, ℕ, zero, suc, ◌<◌, Bool, true, false, List, [], ◌∷◌, length, map}
use Rattle.std.proofs.Common.{Some, refl, sym, ap, ◌∙◌, subst, arith}
use Rattle.std.specs.Prelude.{slice_get}
use Rattle.std.specs.List.{filter}
use Rattle.std.proofs.lemmas.List.{length-map}
use Rattle.cap_ops.specs.Permissions.{data_permissions}
use Rattle.typing_laws.proofs.Sound.{well_typed}
use Rattle.c_tree.specs.Layout.{extent}
use Rattle.c_tree.specs.Typing.{Sound}
use Rattle.c_tree.specs.declared.typed.FunDef.{FunDef}
use Rattle.c_tree.specs.declared.typed.Typed.{Typed}
use Rattle.c_tree.specs.declared.typed.VarDef.{VarDef}
use Rattle.obj_mem.specs.Legal.{ObjectNeed}
use Rattle.obj_mem.specs.Needs.{Legal, function_needs, is_object, local_need, local_needs, needs_of, weight_in}
use Rattle.obj_mem.specs.declared.map.Frame.{Frame}
use Rattle.obj_mem.specs.declared.map.Map.{Map}
use Rattle.cheri_c_sem.specs.Programs.{function_tree, function_trees, lengths_of, program_tree}
use Rattle.cheri_c_sem.specs.Types.{size_in}
use Rattle.lower_runs.proofs.Needs.{HasSize, need_length, vars_sized}
use Rattle.placement.specs.Memories as placement
use Rattle.placement.proofs.Lawful.{length_needed}
use Rattle.placement.proofs.TypedFits.{frames_fit}
use Rattle.place_inject.specs.Entering.{IsFrameOf}
use Rattle.place_inject.specs.Frames.{Setting, homes_of, locals_by}
use Rattle.reg_alloc.specs.declared.places.Places.{Places}
use Rattle.purecap_abi.specs.Saving.{IsFor}
use Rattle.tac_ir.specs.Meaning.{objects_in, objects_of}
use Rattle.tac_ir.specs.declared.code.TacFun.{TacFun}
use Rattle.typed_build.specs.Frames.{FrameFits}
use Rattle.typed_build.proofs.Slots.{local_aligned, local_inside, local_past}
use Rattle.typed_build.proofs.Texts.{there}

-- ---- the lengths of a function's locals

module _ (p : Typed) where
  lengths_from : (vs : List VarDef) → ((k : ℕ) (v : VarDef) → slice_get vs k ≡ Some v → HasSize p.types v.of)
      → map length_needed (map (local_need p.types) (filter is_object vs)) ≡ lengths_of p vs
  lengths_from [] h = refl
  lengths_from (v ∷ vs) h = by v.simple refl (lengths_from vs (λ k. h (suc k)))
    where
      by : (b : Bool) → v.simple ≡ b
          → map length_needed (map (local_need p.types) (filter is_object vs)) ≡ lengths_of p vs
          → map length_needed (map (local_need p.types) (filter is_object (v ∷ vs))) ≡ lengths_of p (v ∷ vs)
      by true e r = rw e r
      by false e r =
          let a = h 0 v refl in
          let one : (local_need p.types v).length ≡ size_in p.types v.of =
          need_length (extent p.types v.of) a.0 data_permissions a.1 a.2 in
          rw e (ap (λ n. n ∷ map length_needed (map (local_need p.types) (filter is_object vs))) one
          ∙ ap (λ ns. size_in p.types v.of ∷ ns) r)

  -- a function's needs, by its number
  needs_at : (weight : ℕ → ℕ) (j : ℕ) (ds : List FunDef) (k : ℕ) (d : FunDef) → slice_get ds k ≡ Some d
      → (n : ℕ) × (slice_get (function_needs p.types weight j ds) k
      ≡ Some (record { locals = local_needs p.types d; weight = n }))
  needs_at weight j [] k d e = absurd cc
  needs_at weight j (c ∷ ds) zero d e =
      let same : c ≡ d = cc in
      (weight j, ap (λ (z : FunDef). Some (record { locals = local_needs p.types z; weight = weight j })) same)
  needs_at weight j (c ∷ ds) (suc k) d e = needs_at weight (suc j) ds k d e

  -- a function's tree
  tree_at : (j : ℕ) (ds : List FunDef) (k : ℕ) (d : FunDef) → slice_get ds k ≡ Some d
      → (n : ℕ) × (slice_get (function_trees p j ds) k ≡ Some (function_tree p n d))
  tree_at j [] k d e = absurd cc
  tree_at j (c ∷ ds) zero d e = let same : c ≡ d = cc in (j, ap (λ z. Some (function_tree p j z)) same)
  tree_at j (c ∷ ds) (suc k) d e = tree_at (suc j) ds k d e

  module _ (sound : Sound p) (k : ℕ) (d : FunDef) (def : slice_get p.funs k ≡ Some d) where
    pub same_lengths : map length_needed (local_needs p.types d) ≡ lengths_of p d.vars
    same_lengths =
        let t = sound.types.types in
        lengths_from d.vars (vars_sized p t.program t.ordered t.shows (well_typed p sound) k d def)

    locals_at : objects_in (program_tree p) k ≡ lengths_of p d.vars
    unfolding program_tree
    locals_at = ap objects_of (tree_at 0 p.funs k d def).1

    local_there : (n : ℕ) → n < length (lengths_of p d.vars)
        → (o : ObjectNeed) × (slice_get (local_needs p.types d) n ≡ Some o)
    local_there n lt =
        there (local_needs p.types d) n
        (omega (arith, lt, ap length same_lengths, length-map (local_needs p.types d) length_needed))

    -- its frame
    pub is_frame_of : (s : Setting) (m : Map) → s.map ≡ m → s.needs ≡ needs_of (weight_in p) p → Legal p m
        → (f : TacFun) (l : Places) (g : Frame) → FrameFits p d f l g → homes_of s k ≡ l.homes
        → slice_get m.frames k ≡ Some g → IsFrameOf s k (objects_in (program_tree p) k) g
    is_frame_of s m map_is needs_are legal f l g fits homes frame =
        let t = sound.types.types in
        let tree = tree_at 0 p.funs k d def in
        let need = needs_at (weight_in p) 0 p.funs k d def in
        let asks : locals_by (slice_get s.needs.functions k) ≡ local_needs p.types d =
        ap (λ (n : Rattle.obj_mem.specs.Legal.Needs). locals_by (slice_get n.functions k)) needs_are
        ∙ ap locals_by need.1 in
        subst (λ ls. IsFrameOf s k ls g) (sym locals_at) (record {
          is = ap (λ (x : Map). slice_get x.frames k) map_is ∙ frame;
          for_homes = subst (λ hs. IsFor hs g) (sym homes) fits.framed;
          holds = frames_fit p t.program t.ordered t.shows (well_typed p sound) (weight_in p) m legal k
              (function_tree p tree.0 d) g tree.1 frame;
          aligned = λ n lt. let o = local_there n lt in local_aligned p d f l g fits n o.0 o.1;
          past_saved = λ n lt. let o = local_there n lt in local_past p d f l g fits n o.0 o.1;
          inside = λ n lt. let o = local_there n lt in local_inside p d f l g fits n o.0 o.1;
          needed = sym same_lengths ∙ ap (map length_needed) (sym asks);
        })

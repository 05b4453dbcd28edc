-- Frames of a program's functions are those that a legal map may have.
use Rattle.std.proofs.Common.{◌≡◌, ℕ, suc, ◌+◌, List, [], ◌∷◌, length, map, Some, refl, sym, ap, ◌∙◌}
use Rattle.std.proofs.Common.{subst, arith}
use Rattle.std.specs.Prelude.{slice_get}
use Rattle.std.proofs.lemmas.Option.{slice_get_within}
use Rattle.c_tree.specs.TreeWeight.{function_weight}
use Rattle.c_tree.specs.declared.typed.FunDef.{FunDef}
use Rattle.c_tree.specs.declared.typed.Typed.{Typed}
use Rattle.obj_mem.specs.Legal.{AreFrames, IsFrame}
use Rattle.obj_mem.specs.Needs.{local_needs, function_needs, weight_by, weight_in}
use Rattle.obj_mem.specs.declared.map.Frame.{Frame}
use Rattle.reg_alloc.specs.declared.places.Places.{Places}
use Rattle.purecap_abi.specs.Frames.{HasFrame}
use Rattle.purecap_abi.specs.Saving.{IsFor}
use Rattle.tac_ir.specs.Costs.{outgoing}
use Rattle.tac_ir.specs.Within.{FunctionCosts}
use Rattle.tac_ir.specs.declared.code.TacFun.{TacFun}
use Rattle.typed_build.specs.Frames.{HasHomes, FrameFits, FramesFit}
use Rattle.typed_build.proofs.Texts.{there}

-- ---- homes

-- ---- one frame

pub frame_fits : (p : Typed) (d : FunDef) (f : TacFun) (l : Places) (g : Frame) → HasHomes f l.homes
    → FunctionCosts (function_weight p d) f
    → HasFrame (map Rattle.bounds_place.specs.Rows.owned_need (local_needs p.types d)) l.homes (outgoing f.code) g
    → IsFor l.homes g → FrameFits p d f l g
frame_fits p d f l g h c has own = record {
  legal = has.legal (record { locals = local_needs p.types d; weight = function_weight p d }) refl
      (omega (arith, h.len, c.temps));
  framed = own;
  align = has.align;
  in_order = has.in_order;
  inside = has.inside;
  room = omega (arith, has.saved);
}

-- ---- all of them

frames_from : (p : Typed) (k : ℕ) (ds : List FunDef) (gs : List Frame) → length gs ≡ length ds
    → ((j : ℕ) (d : FunDef) (g : Frame) → slice_get ds j ≡ Some d → slice_get gs j ≡ Some g →
    (weight_in p (k + j) ≡ function_weight p d) ×
    IsFrame (record { locals = local_needs p.types d; weight = function_weight p d }) g)
    → AreFrames (function_needs p.types (weight_in p) k ds) gs
frames_from p k [] [] n h = tt
frames_from p k [] (g ∷ gs) n h = absurd (omega (arith, n))
frames_from p k (d ∷ ds) [] n h = absurd (omega (arith, n))
frames_from p k (d ∷ ds) (g ∷ gs) n h =
    let here = h 0 d g refl refl in
    let at : weight_in p k ≡ function_weight p d = ap (weight_in p) (let z : k ≡ k + 0 = omega arith in z) ∙ here.0 in (
      subst (λ w. IsFrame (record { locals = local_needs p.types d; weight = w }) g) (sym at) here.1,
      frames_from p (suc k) ds gs (omega (arith, n)) (λ j e f a b.
          let next = h (suc j) e f a b in
          (ap (weight_in p) (let z : suc k + j ≡ k + suc j = omega arith in z) ∙ next.0, next.1)),
    )

module _ (p : Typed) (funs : List TacFun) (places : List Places) (frames : List Frame)
    (as_many : length funs ≡ length p.funs) (m : length places ≡ length p.funs) (h : FramesFit p funs places frames)
  where
    pub are_frames : length frames ≡ length p.funs → AreFrames (function_needs p.types (weight_in p) 0 p.funs) frames
    are_frames n =
        frames_from p 0 p.funs frames n (λ j d g a b.
        let lt = slice_get_within p.funs j d a in
        let f = there funs j (omega (arith, lt, as_many)) in
        let l = there places j (omega (arith, lt, m)) in
        let z : 0 + j ≡ j = omega arith in
        let own : weight_in p (0 + j) ≡ function_weight p d = ap (weight_in p) z ∙ ap (weight_by p) a in
        (own, (h j d f.0 l.0 g a f.1 l.1 b).legal))

    pub framed : (k : ℕ) (l : Places) (g : Frame) → slice_get places k ≡ Some l → slice_get frames k ≡ Some g
        → IsFor l.homes g
    framed k l g a b =
        let lt = slice_get_within places k l a in
        let d = there p.funs k (omega (arith, lt, m)) in
        let f = there funs k (omega (arith, lt, m, as_many)) in
        (h k d.0 f.0 l g d.1 f.1 a b).framed

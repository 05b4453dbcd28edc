-- A plain function has no local that is an object, whose Zero its code would have; so its frame has the least
-- alignment.
use Rattle.std.proofs.Common.{◌≡◌, ℕ, zero, suc, ◌<◌, true, false, List, [], ◌∷◌, length, map, Some, refl, ap, arith}
use Rattle.std.specs.Prelude.{slice_get}
use Rattle.std.proofs.lemmas.Bool.{false≢true}
use Rattle.std.proofs.lemmas.List.{length-map}
use Rattle.std.proofs.lemmas.Option.{slice_get_within}
use Rattle.c_tree.specs.Typing.{Sound}
use Rattle.c_tree.specs.declared.typed.CType.{CType}
use Rattle.c_tree.specs.declared.typed.FunDef.{FunDef}
use Rattle.c_tree.specs.declared.typed.Typed.{Typed}
use Rattle.lower_forms.proofs.Declaring.{objects_become_zero}
use Rattle.lower_runs.specs.Programs.{IsProgram}
use Rattle.obj_mem.specs.Legal.{AreFrames, ObjectNeed}
use Rattle.obj_mem.specs.Needs.{function_needs, local_needs, weight_in}
use Rattle.obj_mem.specs.declared.map.Frame.{Frame}
use Rattle.placement.proofs.Lawful.{length_needed}
use Rattle.plain_functions.specs.Keeping.{PlainFramesAreLow}
use Rattle.plain_functions.specs.Plain.{IsPlain, is_plain}
use Rattle.purecap_abi.specs.Frames.{asked}
use Rattle.purecap_abi.specs.Placing.{greatest_of}
use Rattle.reg_alloc.specs.declared.places.Places.{Places}
use Rattle.tac_ir.specs.declared.code.Tac.{Tac}
use Rattle.tac_ir.specs.declared.code.TacFun.{TacFun}
use Rattle.typed_build.specs.Coded.{Selects}
use Rattle.typed_build.specs.Programs.{HasProgram}
use Rattle.typed_build.specs.declared.written.Selected.{Selected}
use Rattle.typed_build.proofs.Coding.{all_get}
use Rattle.typed_build.proofs.Framed.{same_lengths}
use Rattle.typed_build.proofs.Texts.{there}
use Rattle.typed_build.proofs.Weighing.{same_count}

no_objects : (p : Typed) → Sound p → (t : Tac) → IsProgram p t → (k : ℕ) (d : FunDef) (f : TacFun) (l : Places) →
    slice_get p.funs k ≡ Some d → slice_get t.funs k ≡ Some f → IsPlain f l.homes → local_needs p.types d ≡ []
no_objects p sound t is k d f l def at plain = by (local_needs p.types d) refl
  where
    by : (ns : List ObjectNeed) → local_needs p.types d ≡ ns → ns ≡ []
    by [] e = refl
    by (n ∷ ns) e =
        let needs = local_needs p.types d in
        let lengths = ap length (same_lengths p sound k d def) in
        let z = objects_become_zero p sound t is k d f def at 0
        (omega (arith, lengths, length-map needs length_needed, ap length e)) in
        absurd (false≢true (all_get (λ i. is_plain i ≡ true) f.code plain.code z.0 _ z.1))

least : greatest_of [] ≡ 16
unfolding greatest_of
least = refl

frame_there : (types : List CType) (weight : ℕ → ℕ) (j : ℕ) (ds : List FunDef) (frames : List Frame)
    → AreFrames (function_needs types weight j ds) frames → (k : ℕ) → k < length ds
    → (g : Frame) × (slice_get frames k ≡ Some g)
frame_there types weight j [] frames a k lt = absurd (omega (arith, lt))
frame_there types weight j (d ∷ ds) [] a k lt = absurd a
frame_there types weight j (d ∷ ds) (g ∷ frames) a zero lt = (g, refl)
frame_there types weight j (d ∷ ds) (g ∷ frames) a (suc k) lt =
    frame_there types weight (suc j) ds frames a.1 k (omega (arith, lt))

pub plain_low : (p : Typed) → Sound p → (t : Tac) (places : List Places) (s : Selected) → Selects p s
    → HasProgram p t places s → PlainFramesAreLow t.funs places s.frames.items
plain_low p sound t places s given has k f l at home plain =
    let lt : k < length p.funs =
    omega (arith, slice_get_within t.funs k f at, same_count t p has.is_code.formed) in
    let d = there p.funs k lt in
    let g = frame_there p.types (weight_in p) 0 p.funs s.frames.items given.frames k lt in
    let none = no_objects p sound t has.is_code.is k d.0 f l d.1 at plain in
    let align = (has.frames k d.0 f l g.0 d.1 at home g.1).align in
    record {
      frame = g.0;
      there = g.1;
      low = omega (arith, align, ap (λ ns. greatest_of (map asked ns)) none, least);
    }

-- Instructions take the acts that are counted for them, and functions no more than the count of the program.
use Rattle.std.proofs.Common.{◌≡◌, ℕ, zero, suc, ◌+◌, ◌*◌, ◌<◌, ◌≤◌, true, false, List, [], ◌∷◌, length, Option, Some}
use Rattle.std.proofs.Common.{None, ◌⊎◌, inl, inr, Bool, refl, sym, ap, ◌∙◌, subst, arith}
use Rattle.std.specs.Prelude.{slice_get, slice_index_or}
use Rattle.std.specs.List.{sum_by}
use Rattle.std.proofs.lemmas.Bool.{and_parts, ltb-true}
use Rattle.std.proofs.lemmas.List.Sums.{sum_by-cons}
use Rattle.std.proofs.lemmas.Option.{slice_get_cases}
use Rattle.cap_concentrate.specs.Rounding.{owned}
use Rattle.c_tree.specs.Counts.{copies, fun_granules, granules, parts}
use Rattle.c_tree.specs.TreeWeight.{function_weight}
use Rattle.c_tree.specs.Typing.{Sound}
use Rattle.c_tree.specs.Weight.{weight}
use Rattle.c_tree.specs.declared.typed.CType.{CType}
use Rattle.c_tree.specs.declared.typed.FunDef.{FunDef}
use Rattle.c_tree.specs.declared.typed.Typed.{Typed}
use Rattle.c_tree.proofs.Weighed.{weight_of_functions}
use Rattle.obj_mem.specs.Counted.{count_of}
use Rattle.obj_mem.specs.Legal.{AreFrames, HasSlot, ObjectNeed}
use Rattle.obj_mem.specs.Needs.{Legal, function_needs, local_needs, weight_by, weight_in}
use Rattle.obj_mem.specs.declared.map.Frame.{Frame}
use Rattle.cheri_c_sem.specs.Programs.{lengths_of}
use Rattle.tac_ir.specs.Costs.{cost, prologue_cost}
use Rattle.tac_ir.specs.Meaning.{code_of}
use Rattle.tac_ir.specs.WellFormed.{all_of, ends_well, function_fits, instruction_fits, is_well_formed, turns_fit}
use Rattle.tac_ir.specs.Within.{Within, copied_parts, function_copies}
use Rattle.tac_ir.specs.declared.code.TacFun.{TacFun}
use Rattle.tac_ir.specs.declared.code.TacInstr.{TacInstr}
use Rattle.tac_ir.specs.declared.code.TacInstr.TheVariants as instr
use Rattle.select_words.specs.Zeroing as zeroing
use Rattle.select_whole.specs.Matching.{AreFine, IsFine, dear_of}
use Rattle.select_whole.specs.Visited.{Whole, tac_at}
use Rattle.image_runs.specs.Asked.{AreDear}
use Rattle.image_runs.specs.Counted.{AreCounted, CountedCode}
use Rattle.image_runs.specs.Made.{AreSelected, Made, setup_by, slot_granules, whole_of, zeroed}
use Rattle.image_runs.specs.Made.{zeroed_in}
use Rattle.image_runs.proofs.Formed.{Fitting, formed_at, parts_of}
use Rattle.image_runs.proofs.Sums.{locals_count, locals_sum, part_of_sum, zeros_below}

-- ---- frames of a map that is legal for a program

frame_slots : (types : List CType) (weights : ℕ → ℕ) (k : ℕ) (ds : List FunDef) (frames : List Frame)
    → AreFrames (function_needs types weights k ds) frames → (j : ℕ) (d : FunDef) (f : Frame) → slice_get ds j ≡ Some d
    → slice_get frames j ≡ Some f → (var : ℕ) (o : ObjectNeed) → slice_get (local_needs types d) var ≡ Some o
    → HasSlot o f var
frame_slots types weights k [] frames a j d f e q = cc
frame_slots types weights k (x ∷ ds) [] a j d f e q = absurd a
frame_slots types weights k (x ∷ ds) (y ∷ frames) a zero d f e q =
    let same : x ≡ d = cc in
    let own : y ≡ f = cc in
    subst (λ z. (var : ℕ) (o : ObjectNeed) → slice_get (local_needs types z) var ≡ Some o → HasSlot o f var) same
    (subst (λ z. (var : ℕ) (o : ObjectNeed) → slice_get (local_needs types x) var ≡ Some o → HasSlot o z var) own
    a.0.has_slot)
frame_slots types weights k (x ∷ ds) (y ∷ frames) a (suc j) d f e q =
    frame_slots types weights (suc k) ds frames a.1 j d f e q

-- ---- code that fits

all_get : (test : TacInstr → Bool) (code : List TacInstr) (k : ℕ) (i : TacInstr) → all_of test code ≡ true
    → slice_get code k ≡ Some i → test i ≡ true
all_get test [] k i h e = cc
all_get test (x ∷ code) zero i h e =
    let same : x ≡ i = cc in subst (λ y. test y ≡ true) same (and_parts (test x) (all_of test code) h).0
all_get test (x ∷ code) (suc k) i h e = all_get test code k i (and_parts (test x) (all_of test code) h).1 e

ends_of : (p : Typed) (d : FunDef) (f : TacFun) → function_fits p d f ≡ true → ends_well f.code ≡ true
ends_of p d f e = (and_parts _ (ends_well f.code) (and_parts _ (turns_fit false f.code) e).0).1

one_granule : (p : Typed) (fun : ℕ) (d : FunDef) → slice_get p.funs fun ≡ Some d → fun_granules p.types d ≤ granules p
unfolding granules
one_granule p fun d e = part_of_sum (fun_granules p.types) p.funs fun d e

enough_of : (p : Typed) → 2 + (32 * weight p + 8 * granules p + 128 * copies p + 1) ≤ count_of p
unfolding count_of
enough_of p = omega arith

module _ (m : Made) (s : AreSelected m) (sound : Sound m.program) (formed : is_well_formed m.code m.program ≡ true)
    (within : Within m.code m.program) (legal : Legal m.program m.map) where
  abbrev g : Whole
  g = whole_of m s

  abbrev frame_at : ℕ → Option Frame
  frame_at fun = slice_get m.map.frames fun

  dear : AreDear g
  dear = record {
    each = λ fun i. omega arith;
    copies = λ fun i. omega arith;
    zeroes = λ fun var words form.
        let found : zeroed_in (frame_at fun) var ≡ zeroing.granules form.slot =
        ap (λ x. zeroed_in x var) form.is ∙ ap slot_granules form.has in
        omega (arith, found);
    entered = λ fun f is. subst (λ o. prologue_cost f.params < setup_by o) (sym is) (omega arith);
  }

  -- ---- the acts of a function

  dear_sum : (fun : ℕ) (code : List TacInstr) → dear_of g fun code
      ≡ sum_by cost code + 128 * sum_by copied_parts code + 8 * sum_by (zeroed (frame_at fun)) code
  dear_sum fun [] = refl
  dear_sum fun (i ∷ code) =
      omega (
        arith,
        dear_sum fun code,
        sum_by-cons cost i code,
        sum_by-cons copied_parts i code,
        sum_by-cons (zeroed (frame_at fun)) i code,
      )

  module _ (fun : ℕ) (f : TacFun) (is : slice_get m.code.funs fun ≡ Some f) where
    fits : Fitting m.program m.program.funs fun f
    fits = formed_at m.program m.code fun f formed is

    abbrev d : FunDef
    d = fits.function

    abbrev needs : List ObjectNeed
    needs = local_needs m.program.types d

    locals_there : (k x : ℕ) → slice_get f.code k ≡ Some (instr.Zero x) → x < length needs
    locals_there k x e =
        let lt = ltb-true x (length (lengths_of m.program d.vars))
        (all_get (instruction_fits m.program d f.kinds f.code) f.code k (instr.Zero x)
        (parts_of m.program d f fits.fits).each e) in
        let same = locals_count m.program d.vars in
        omega (arith, lt, same)

    slot_parts : (frame : Frame) → frame_at fun ≡ Some frame → (j : ℕ) (n : ObjectNeed) → slice_get needs j ≡ Some n
        → zeroed_in (frame_at fun) j ≤ parts (owned n.length)
    slot_parts frame e j n there =
        let x = frame_slots m.program.types (weight_in m.program) 0 m.program.funs m.map.frames legal.frames fun d frame
        fits.there e j n there in
        let same : zeroed_in (frame_at fun) j ≡ parts (owned n.length) =
        ap (λ o. zeroed_in o j) e ∙ ap slot_granules x.1 ∙ ap parts x.2.length in
        omega (arith, same)

    zeros_by : (o : Option Frame) → frame_at fun ≡ o → (j : ℕ) (n : ObjectNeed) → slice_get needs j ≡ Some n
        → zeroed_in (frame_at fun) j ≤ parts (owned n.length)
    zeros_by None e j n there =
        let none : zeroed_in (frame_at fun) j ≡ 0 = ap (λ o. zeroed_in o j) e in omega (arith, none)
    zeros_by (Some frame) e j n there = slot_parts frame e j n there

    zeros : sum_by (zeroed (frame_at fun)) f.code ≤ granules m.program
    zeros =
        let own = zeros_below (frame_at fun) needs f.code (λ (n : ObjectNeed). parts (owned n.length)) locals_there
        (within.functions fun f is).zeros (zeros_by (frame_at fun) refl) in
        let all = locals_sum m.program.types d.vars in
        let one = one_granule m.program fun d fits.there in
        omega (arith, own, all, one)

    copied : sum_by copied_parts f.code ≤ copies m.program
    copied = let one = part_of_sum function_copies m.code.funs fun f is in let all = within.copies in omega arith

    cheap : prologue_cost f.params + 1 + dear_of g fun f.code ≤ g.most
    cheap =
        let own = (within.costs.functions fun f is).cost in
        let weighs : weight_in m.program fun ≡ function_weight m.program d = ap (weight_by m.program) fits.there in
        let one = part_of_sum (function_weight m.program) m.program.funs fun d fits.there in
        let all = weight_of_functions m.program sound.types.types.ordered in
        let sum = dear_sum fun f.code in
        let few = zeros in
        let some = copied in
        omega (arith, own, weighs, one, all, sum, few, some)

    fine_function : IsFine g fun false (tac_at g fun)
    fine_function =
        let fine : IsFine g fun false f.code = record {
          ends = ends_of m.program d f fits.fits;
          turned = (parts_of m.program d f fits.fits).turned;
          cheap = subst (λ o. setup_by o + dear_of g fun f.code ≤ g.most) (sym is) cheap;
        } in
        subst (λ o. IsFine g fun false (code_of o)) (sym is) fine

  fine : AreFine g
  fine fun lt = by (slice_get_cases m.code.funs fun).1
    where
      by : ((f : TacFun) × (fun < length m.code.funs) × (slice_get m.code.funs fun ≡ Some f)
          × (slice_index_or m.code.funs fun f ≡ f)) ⊎ ((length m.code.funs ≤ fun) × (slice_get m.code.funs fun ≡ None))
          → IsFine g fun false (tac_at g fun)
      by (inl x) = fine_function fun x.0 x.2
      by (inr x) = let le = x.0 in absurd (omega (arith, le, lt))

  counted : AreCounted m s
  counted = record { dear = dear; fine = fine; enough = enough_of m.program }

pub counted_code_law : CountedCode
counted_code_law m s sound formed within legal = counted m s sound formed within legal

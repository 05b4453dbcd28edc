-- Where a local of the function that runs stands: at its slot in the frame, in the stack.
use Rattle.std.proofs.Common.{◌≡◌, ℕ, zero, suc, ◌+◌, ◌-◌, ◌^◌, ◌<◌, ◌≤◌, Bool, true, false, List, [], ◌∷◌, length, map}
use Rattle.std.proofs.Common.{Some, refl, sym, ap, ◌∙◌, subst, arith}
use Rattle.std.specs.Prelude.{slice_get}
use Rattle.std.specs.List.{filter}
use Rattle.std.proofs.lemmas.Option.{same_Some}
use Rattle.cap_concentrate.specs.Rounding.{owned}
use Rattle.c_tree.specs.declared.typed.CType.{CType}
use Rattle.c_tree.specs.declared.typed.FunDef.{FunDef}
use Rattle.c_tree.specs.declared.typed.Typed.{Typed}
use Rattle.c_tree.specs.declared.typed.VarDef.{VarDef}
use Rattle.cap_machine.specs.declared.machine.Machine.{Machine}
use Rattle.obj_mem.specs.declared.map.Frame.{Frame}
use Rattle.obj_mem.specs.declared.map.Slot.{Slot}
use Rattle.obj_mem.specs.Legal.{ObjectNeed, FunctionNeed, Needs, IsLegal, IsFrame, IsSlot, AreFrames, slot_of}
use Rattle.obj_mem.specs.Needs.{local_need, local_needs, is_object, function_needs}
use Rattle.obj_mem.specs.Pointers.{keeps}
use Rattle.cheri_c_sem.specs.Modes as modes
use Rattle.cheri_c_sem.specs.Modes.{local_offset, slot_offset}
use Rattle.cheri_c_sem.specs.Programs.{lengths_of}
use Rattle.cheri_c_sem.specs.Steps.{State}
use Rattle.place_inject.specs.Frames.{Setting, Point, IsAt, locals_by, stack_top}
use Rattle.place_inject.specs.Fits.{Fits, registers_in}
use Rattle.place_inject.proofs.ReadBack.{newest, under}
use Rattle.place_inject.proofs.Reaching.{stack_reaches_law}
use Rattle.select_runs.specs.Instructions.{IsAskedBy}
use Rattle.select_runs.proofs.Far.{Reach, far}

pub some_at : {A : Type 0} (xs : List A) (k : ℕ) → k < length xs → (x : A) × (slice_get xs k ≡ Some x)
some_at [] k h = absurd (omega arith)
some_at (x ∷ xs) zero h = (x, refl)
some_at (x ∷ xs) (suc k) h = some_at xs k (omega arith)

-- ---- what the program asks for

function_needed : (types : List CType) (weight : ℕ → ℕ) (fs : List FunDef) (k j : ℕ) (d : FunDef)
    → slice_get fs j ≡ Some d
    → locals_by (slice_get (function_needs types weight k fs) j) ≡ local_needs types d
function_needed types weight [] k j d h = cc
function_needed types weight (e ∷ fs) k zero d h = ap (local_needs types) (same_Some e d h)
function_needed types weight (e ∷ fs) k (suc j) d h = function_needed types weight fs (suc k) j d h

locals_many : (p : Typed) (vs : List VarDef) → length (map (local_need p.types) (filter is_object vs)) ≡ length
    (lengths_of p vs)
locals_many p [] = refl
locals_many p (v ∷ vs) = by v.simple refl (locals_many p vs)
  where
    by : (b : Bool) → v.simple ≡ b → length (map (local_need p.types) (filter is_object vs)) ≡ length (lengths_of p vs)
        → length (map (local_need p.types) (filter is_object (v ∷ vs))) ≡ length (lengths_of p (v ∷ vs))
    by true e r = rw e r
    by false e r = rw e (ap suc r)

pub framed : (ns : List FunctionNeed) (fs : List Frame) (k : ℕ) (f : Frame) → AreFrames ns fs → slice_get fs k ≡ Some f
    → (n : FunctionNeed) × (slice_get ns k ≡ Some n) × IsFrame n f
framed [] [] k f a h = cc
framed [] (g ∷ fs) k f a h = absurd a
framed (n ∷ ns) [] k f a h = absurd a
framed (n ∷ ns) (g ∷ fs) zero f a h = (n, refl, subst (IsFrame n) (same_Some g f h) a.0)
framed (n ∷ ns) (g ∷ fs) (suc k) f a h = framed ns fs k f a.1 h

-- ---- the local

pub record LocalLies (s : Setting) (t : State modes.Store) (var : ℕ) (slot : Slot) : Type 0 where
  pub need : ObjectNeed
  pub stands : IsAt t.mem.memory.shapes (t.first + var) need (t.frame + slot.at)
  pub length_is : slot.length ≡ owned need.length
  pub low : s.map.stack.0 ≤ t.frame
  pub end : t.frame + slot.at + slot.length ≤ stack_top s
  pub small : slot.at < 2 ^ 31 - 2048
  pub top : stack_top s ≤ 2 ^ 40

module _ (s : Setting) (legal : IsLegal s.needs s.map) (p : Typed) (asked : IsAskedBy s p) (point : Point)
    (t : State modes.Store) (m : Machine) (fits : Fits s (Some point) t m) (d : FunDef)
    (is : slice_get p.funs point.running.fun ≡ Some d) (var : ℕ) (below : var < length (lengths_of p d.vars))
    (frame : Frame) (has_frame : slice_get s.map.frames point.running.fun ≡ Some frame) (slot : Slot)
    (has : slot_of frame var ≡ Some slot) where
  abbrev fun : ℕ
  fun = point.running.fun

  needs_are : locals_by (slice_get s.needs.functions fun) ≡ local_needs p.types d
  needs_are =
      ap (λ (n : Needs). locals_by (slice_get n.functions fun)) asked.needs
      ∙ function_needed p.types asked.weight p.funs 0 fun d is

  needed : (need : ObjectNeed) × (slice_get (locals_by (slice_get s.needs.functions fun)) var ≡ Some need)
  needed =
      let many = locals_many p d.vars in
      some_at (locals_by (slice_get s.needs.functions fun)) var
      (subst (λ ns. var < length ns) (sym needs_are) (omega (arith, below, many)))

  frame_is : (n : FunctionNeed) × (slice_get s.needs.functions fun ≡ Some n) × IsFrame n frame
  frame_is = framed s.needs.functions s.map.frames fun frame legal.frames has_frame

  slot_is : IsSlot needed.0 frame slot
  slot_is =
      let h = frame_is.2.has_slot var needed.0 (subst (λ ns. slice_get ns var ≡ Some needed.0)
      (ap locals_by frame_is.1) needed.1) in
      subst (IsSlot needed.0 frame) (same_Some h.0 slot (sym h.1 ∙ has)) h.2

  stands : IsAt t.mem.memory.shapes (t.first + var) needed.0 (t.frame + slot.at)
  stands =
      let e : local_offset (slice_get s.map.frames fun) var ≡ slot.at =
      ap (λ o. local_offset o var) has_frame ∙ ap slot_offset has in
      subst (λ k. IsAt t.mem.memory.shapes (t.first + var) needed.0 (t.frame + k)) e
      (fits.calls.0.each var needed.0 needed.1)

  pub local_lies : LocalLies s t var slot
  local_lies =
      let own = newest s t.mem.memory.shapes m.mem (registers_in m) fun t.first t.frame point.running.callers
      fits.calls.2 in
      let fr = own.frame in
      let lies = under s t.mem.memory.shapes m.mem fun t.first t.frame own.above own.link fr in
      let same : fr.frame ≡ frame = same_Some fr.frame frame (sym fr.is ∙ has_frame) in
      let size : fr.frame.size ≡ frame.size = ap (λ (f : Frame). f.size) same in
      let low_is = lies.from in
      let high_is = lies.to in
      let top_is = own.inside in
      let within_it = slot_is.within in
      let few = fr.for_homes.small in
      record {
        need = needed.0;
        stands = stands;
        length_is = slot_is.length;
        low = low_is;
        end = omega arith;
        small = omega arith;
        top = legal.in_range.2.2.2.1;
      }

-- ---- addresses of its

module _ (s : Setting) (legal : IsLegal s.needs s.map) (t : State modes.Store) (var : ℕ) (slot : Slot)
    (lies : LocalLies s t var slot) where
  pub stack_keeps : (y : ℕ) → s.map.stack.0 ≤ y → y < stack_top s + 4096 → keeps s.map.stack.0 (stack_top s) y ≡ true
  stack_keeps y from below = stack_reaches_law s legal y from below

  pub local_reach : Reach s.map.stack.0 (stack_top s) t.frame slot.at
  local_reach =
      let low_is = lies.low in let high_is = lies.end in let top_is = lies.top in let few = lies.small in
      record {
        small = few;
        below = omega arith;
        here = stack_keeps t.frame low_is (omega arith);
        near = stack_keeps (t.frame + far slot.at) (omega arith) (omega arith);
      }

  pub base_keeps : keeps s.map.stack.0 (stack_top s) (t.frame + slot.at) ≡ true
  base_keeps =
      let low_is = lies.low in let high_is = lies.end in stack_keeps (t.frame + slot.at) (omega arith) (omega arith)

-- A value that was spilled is read back.
use Rattle.std.proofs.Common.{◌≡◌, ℕ, ◌+◌, ◌*◌, ◌%◌, ◌<◌, ◌≤◌, ◌==◌, ◌&&◌, ◌||◌, ℤ, Bool, true, false, not, ltb, List}
use Rattle.std.proofs.Common.{[], ◌∷◌, refl, ap, ◌∙◌, arith, Option, Some, None}
use Rattle.std.specs.Prelude.{find, slice_get, Ok}
use Rattle.std.specs.Option.{option_map}
use Rattle.std.proofs.lemmas.Bool.{le-ltb, eq-eqb, or_from}
use Rattle.std.proofs.lemmas.Option.{same_Some, none-some}
use Rattle.cap_concentrate.specs.Encoding.{with_bounds}
use Rattle.cap_ops.specs.declared.capability.Cap.{Cap}
use Rattle.cap_ops.specs.declared.capability.TheConstants.{UNSEALED, LOAD_CAPABILITY}
use Rattle.cap_ops.specs.declared.access.Access.TheVariants as A
use Rattle.cap_ops.specs.declared.access.Cause.{Cause}
use Rattle.cap_ops.specs.declared.access.Cause.TheVariants as C
use Rattle.cap_ops.specs.Access.{fails, in_order, answer, checked}
use Rattle.cap_ops.specs.Bounded.{bounded}
use Rattle.cap_ops.specs.Capability.{base, top, permits}
use Rattle.cap_ops.specs.Permissions.{data_permissions}
use Rattle.tag_mem.specs.Areas.{Area}
use Rattle.tag_mem.specs.Memory.{capability_at}
use Rattle.cap_machine.specs.declared.machine.Machine.{Machine}
use Rattle.cap_machine.specs.Rows.{plus, set, clc_checked, cap_loaded, clc_row}
use Rattle.cap_machine.specs.State.{register}
use Rattle.obj_mem.specs.Objects.{Shape}
use Rattle.obj_mem.specs.Pointers.{keeps}
use Rattle.reg_alloc.specs.declared.places.Home.TheVariants.{Slot}
use Rattle.purecap_abi.specs.Saving.{slot_count, slots_at}
use Rattle.purecap_abi.proofs.Counts.{slot_count_each}
use Rattle.tac_ir.specs.Meaning.{Caller}
use Rattle.place_inject.specs.Parts.{capability_in, kept_at}
use Rattle.place_inject.specs.Frames.{Setting, Registers, homes_of, slots_from, stack_top, behind_return, FrameFits}
use Rattle.place_inject.specs.Frames.{FramesFit}
use Rattle.place_inject.specs.Fits.{registers_in}
use Rattle.place_inject.specs.Slots.{SlotsReadBack}
use Rattle.place_inject.proofs.FramesKept.{stack_multiple}
use Rattle.place_inject.proofs.Lying.{Lies, within}
use Rattle.place_inject.proofs.Reaching.{kept_bounds}

-- ---- where frames lie

module _ (s : Setting) (shapes : List Shape) (memory : List Area) where
  pub under : (fun first at above link : ℕ) (f : FrameFits s shapes memory fun first at above link)
      → Lies s.map.stack.0 above at f.frame
  under fun first at above link f = within s.map.stack.0 above at f.frame f.below

  pub under_top : (registers : Registers) (fun first at : ℕ) (cs : List Caller)
      → FramesFit s shapes memory registers fun first at cs → at ≤ stack_top s
  under_top registers fun first at [] f = let l = under fun first at
      (stack_top s) s.stub f in let to = l.to in omega arith
  under_top registers fun first at (c ∷ cs) f =
      let l = under fun first at c.frame (s.back c.fun c.rest) f.0 in
      let to = l.to in
      let r = under_top (behind_return s memory fun at registers) c.fun c.first c.frame cs f.3 in
      omega arith

  pub record Newest (fun first at : ℕ) : Type 0 where
    pub above : ℕ
    pub link : ℕ
    pub frame : FrameFits s shapes memory fun first at above link
    pub inside : above ≤ stack_top s

  pub newest : (registers : Registers) (fun first at : ℕ) (cs : List Caller)
      → FramesFit s shapes memory registers fun first at cs → Newest fun first at
  newest registers fun first at [] f = record { above = stack_top s; link = s.stub; frame = f; inside = omega arith }
  newest registers fun first at (c ∷ cs) f =
      record {
        above = c.frame;
        link = s.back c.fun c.rest;
        frame = f.0;
        inside =
            under_top (behind_return s memory fun at registers) c.fun c.first c.frame cs f.3;
      }

-- ---- a load of 16 bytes through the stack's capability

pub none_fails : (f : Cause → Bool) → f C.Tag ≡ false → f C.Sealed ≡ false → f C.Load ≡ false → f C.Store ≡ false
    → f C.StoreCap ≡ false → f C.Execute ≡ false
    → f C.Bounds ≡ false → f C.Align ≡ false → find f in_order ≡ None
none_fails f a b c d e g h i = rw (a, b, c, d, e, g, h, i) refl

not_sealed : (low high y at : ℕ) → fails (bounded low high data_permissions UNSEALED y) at A.LoadCap C.Sealed ≡ false
unfolding with_bounds
not_sealed low high y at = refl

may_load : (low high y at : ℕ) → fails (bounded low high data_permissions UNSEALED y) at A.LoadCap C.Load ≡ false
unfolding with_bounds
may_load low high y at = refl

may_load_tags : (low high y : ℕ) → permits
    (bounded low high data_permissions UNSEALED y).fields.perms LOAD_CAPABILITY ≡ true
unfolding with_bounds
may_load_tags low high y = refl

pub address_of : (low high y : ℕ) → (bounded low high data_permissions UNSEALED y).fields.address ≡ y
unfolding with_bounds
address_of low high y = refl

stack_loads : (low high y at : ℕ) → keeps low high y ≡ true → low ≤ at → at + 16 ≤ high → at % 16 ≡ 0
    → checked (bounded low high data_permissions UNSEALED y) at A.LoadCap ≡ Ok at
unfolding checked
stack_loads low high y at kept from to aligned =
    let c = bounded low high data_permissions UNSEALED y in
    let q = kept_bounds low high data_permissions y kept in
    let bounds : (ltb at (base c) || ltb (top c) (at + 16)) ≡ false =
    or_from _ _ (le-ltb at (base c) (let e = q.0 in omega arith))
    (le-ltb (top c) (at + 16) (let e = q.1 in omega arith)) in
    let align : not (at % 16 == 0) ≡ false = ap not (eq-eqb (at % 16) 0 aligned) in
    ap (answer at) (none_fails (fails c at A.LoadCap) refl (not_sealed low high y at)
    (may_load low high y at) refl refl refl bounds align)

-- ---- what is found

record Found (memory : List Area) (at : ℕ) (d : Cap) : Type 0 where
  pair : ℕ × Bool
  there : capability_at memory at ≡ Some pair
  is : capability_in pair ≡ d

found : (memory : List Area) (at : ℕ) (d : Cap) → kept_at memory at ≡ Some d → Found memory at d
found memory at d e = go (capability_at memory at) refl e where
  go : (o : Option (ℕ × Bool)) → capability_at memory at ≡ o → option_map capability_in o ≡ Some d → Found memory at d
  go None q r = absurd (none-some d r)
  go (Some v) q r = record { pair = v; there = q; is = same_Some (capability_in v) d r }

and_true : (b : Bool) → (b && true) ≡ b
and_true true = refl
and_true false = refl

tag_stays : (v : ℕ × Bool) (b : Bool) → b ≡ true → ◌≡◌ {A = Cap}
    (record { tag = v.1 && b; fields = (capability_in v).fields }) (capability_in v)
tag_stays v b e = ap (λ x. record { tag = x; fields = (capability_in v).fields }) (ap (λ y. v.1 && y) e ∙ and_true v.1)

-- the capability that is kept at an address is loaded from there
pub loads_kept : (low high y at : ℕ) (n : Machine) (to from : ℕ) (z : ℤ) (d : Cap)
    → register n from ≡ bounded low high data_permissions UNSEALED y → keeps low high y ≡ true → plus y z ≡ at
    → low ≤ at
    → at + 16 ≤ high → at % 16 ≡ 0 → kept_at n.mem at ≡ Some d → clc_row n to from z ≡ set n to d
unfolding clc_row
loads_kept low high y at n to from z d holds keep place above below aligned kept =
    let check = stack_loads low high y at keep above below aligned in
    let got = found n.mem at d kept in
    let c : Cap = bounded low high data_permissions UNSEALED y in
    let address : plus c.fields.address z ≡ at = ap (λ x. plus x z) (address_of low high y) ∙ place in
    let tags = tag_stays got.pair (permits c.fields.perms LOAD_CAPABILITY) (may_load_tags low high y) in
    rw holds (ap (λ x. clc_checked n to c (checked c x A.LoadCap)) address ∙ ap (clc_checked n to c) check
    ∙ ap (cap_loaded n to c) got.there
    ∙ ap (set n to) (tags ∙ got.is))

pub slots_read_back_law : SlotsReadBack
slots_read_back_law s legal p t m f temp slot live stands home n memory to from y z holds keep place =
    let homes = homes_of s p.running.fun in
    let calls = f.calls in
    let own = newest s t.mem.memory.shapes m.mem (registers_in m) p.running.fun t.first t.frame p.running.callers
    calls.2 in
    let fr = own.frame in
    let lies = under s t.mem.memory.shapes m.mem p.running.fun t.first t.frame own.above own.link fr in
    let from_low = lies.from in
    let to_high = lies.to in
    let top_is = own.inside in
    let saved = fr.for_homes.saved in
    let inside = fr.for_homes.inside in
    let aligned = fr.aligned in
    let z16 = stack_multiple fr.frame.align in
    let l : slot < slot_count homes = slot_count_each homes temp slot home in
    let slots : slots_from (slice_get s.map.frames p.running.fun) homes t.frame ≡ t.frame + slots_at homes fr.frame =
    ap (λ x. slots_from x homes t.frame) fr.is in
    let at : ℕ = slots_from (slice_get s.map.frames p.running.fun) homes t.frame + 16 * slot in
    let kept = calls.1.kept temp (Slot slot) live stands home in
    loads_kept s.map.stack.0 (stack_top s) y at n to from z _ holds keep place (omega arith) (omega arith) (omega arith)
    (ap (λ x. kept_at x at) memory ∙ kept)

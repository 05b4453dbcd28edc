use Rattle.std.proofs.Common.{◌≡◌, ℕ, ◌+◌, true, refl, sym, ap, ◌∙◌, arith}
use Rattle.std.specs.Prelude.{List, drop}
use Rattle.cap_ops.specs.declared.capability.Cap.{Cap}
use Rattle.cap_machine.specs.Rows.{memory_bits}
use Rattle.tag_mem.specs.Areas.{Area}
use Rattle.tag_mem.specs.Memory.{written}
use Rattle.tag_mem.specs.Numbers.{little_bytes}
use Rattle.image_load.specs.Judging.{initial_of, capability_of}
use Rattle.image_load.specs.State.{relocated}
use Rattle.image_load.proofs.Walk.{at_some, loadable, next_stored, last_stored}
use Rattle.image_load.proofs.Sorted.{judged_well}
use Rattle.image_load.proofs.loading.store_relocs.Goals as goal

pub loop-r-init : goal.loop-r-init
loop-r-init c = record { well = (judged_well c.args.view.now c.requires).relocs; so_far = refl }

pub capability_of-c-requires : goal.capability_of-c-requires
capability_of-c-requires c =
    (loadable c.args.view.now.relocs c.loop-r.k c.in-Some.r (initial_of c.args.view.now)
    (sym c.in-Some.ensures.value) c.loop-r.invariant.well).0.exact

pub set_cap-requires : goal.set_cap-requires
set_cap-requires c = (loadable c.args.view.now.relocs c.loop-r.k c.in-Some.r (initial_of c.args.view.now)
    (sym c.in-Some.ensures.value) c.loop-r.invariant.well).0.even

pub loop-r-smaller : goal.loop-r-smaller
loop-r-smaller c =
    let h = (at_some c.args.view.now.relocs c.loop-r.k c.in-Some.r (sym c.in-Some.ensures.value)).1 in
    omega (arith, h)

pub loop-r-preserved : goal.loop-r-preserved
loop-r-preserved c =
    let rs = c.args.view.now.relocs in
    let e = sym c.in-Some.ensures.value in
    let bits : c.memory_bits.result ≡ memory_bits (capability_of c.in-Some.r).fields =
    c.memory_bits.ensures ∙ ap (λ (x : Cap). memory_bits x.fields) c.capability_of-c.ensures in
    let put : ℕ → List Area = λ b. written c.loop-r.mem c.in-Some.r.place (little_bytes 16 b) true in
    let m : c.set_cap.new.self ≡ put (memory_bits (capability_of c.in-Some.r).fields) =
    c.set_cap.ensures.value ∙ ap put bits in
    record {
      well = (loadable rs c.loop-r.k c.in-Some.r (initial_of c.args.view.now) e c.loop-r.invariant.well).1;
      so_far = ap (λ (x : List Area). relocated x (drop (c.loop-r.k + 1) rs)) m
          ∙ next_stored c.loop-r.mem _ rs c.loop-r.k c.in-Some.r e c.loop-r.invariant.so_far;
    }

pub returns : goal.returns
returns c = sym (last_stored c.loop-r.mem c.args.view.now.relocs c.loop-r.k (sym c.in_default.ensures.value))
    ∙ c.loop-r.invariant.so_far

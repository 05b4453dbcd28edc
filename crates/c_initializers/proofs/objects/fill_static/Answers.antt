use Rattle.std.proofs.Common.{Err, List, subst}
use Rattle.std.proofs.lemmas.Result.{err_from_is_err_and}
use Rattle.c_tree.specs.Statics.{start_slots}
use Rattle.c_elaborator.specs.Answers.{Done, Answers, freely}
use Rattle.c_initializers.specs.declared.slots.Slot.{Slot}
use Rattle.c_initializers.specs.Slots.{slots_in}
use Rattle.c_initializers.specs.Found.{FoundThere, IsFound}
use Rattle.c_initializers.proofs.ObjectLaws.{static_steps, found_steps, found_fails, rest_steps, rest_fails}
use Rattle.c_initializers.proofs.objects.fill_static.Goals as goal

pub returns-in_err-found : goal.returns-in_err-found
returns-in_err-found c =
    let p = err_from_is_err_and c.from_residual-in_err-found.result c.from_residual-in_err-found.ensures.1 in
    let v = c.complete_object.new.work in
    let m = c.start_slots.new.work in
    let f = c.args.filled.now in
    let e = c.in_err-found.field-0.0 in
    let a : Answers freely v m (start_slots (slots_in v.nodes c.as_slice.result.now)) FoundThere IsFound (Err e) =
    c.in_err-found.ensures in
    rw (p.1, p.2)
    (static_steps c.args.work.now v m c.args.k c.args.pos f (Err e)
    (c.in_ok-complete_object.ensures {u = tt}) c.requires.filled
    (found_fails v m (slots_in v.nodes f.slots.items) c.args.k c.args.pos e
    (subst (λ (xs : List Slot). Answers freely v m (start_slots (slots_in v.nodes xs)) FoundThere IsFound (Err e))
    c.as_slice.ensures.value a)))

pub returns-in_err-object_complete : goal.returns-in_err-object_complete
returns-in_err-object_complete c =
    let p = err_from_is_err_and c.from_residual-in_err-object_complete.result
    c.from_residual-in_err-object_complete.ensures.1 in
    let v = c.complete_object.new.work in
    let m = c.start_slots.new.work in
    let f = c.args.filled.now in
    let found = c.in_ok-found.found in
    let e = c.in_err-object_complete.field-0.0 in
    rw (p.1, p.2)
    (static_steps c.args.work.now v m c.args.k c.args.pos f (Err e)
    (c.in_ok-complete_object.ensures {u = tt}) c.requires.filled
    (found_steps v m m (slots_in v.nodes f.slots.items) found c.args.k c.args.pos (Err e)
    (subst (λ (xs : List Slot). Done freely v m (start_slots (slots_in v.nodes xs)) (FoundThere m found)
    (IsFound m found)) c.as_slice.ensures.value (c.in_ok-found.ensures {u = tt}))
    (rest_fails m found c.args.k c.args.pos e c.in_err-object_complete.ensures)))

pub returns : goal.returns
returns c =
    let v = c.complete_object.new.work in
    let m = c.start_slots.new.work in
    let w = c.fill_found.new.work in
    let f = c.args.filled.now in
    let found = c.in_ok-found.found in
    static_steps c.args.work.now v w c.args.k c.args.pos f c.fill_found.result
    (c.in_ok-complete_object.ensures {u = tt}) c.requires.filled
    (found_steps v m w (slots_in v.nodes f.slots.items) found c.args.k c.args.pos c.fill_found.result
    (subst (λ (xs : List Slot). Done freely v m (start_slots (slots_in v.nodes xs)) (FoundThere m found)
    (IsFound m found)) c.as_slice.ensures.value (c.in_ok-found.ensures {u = tt}))
    (rest_steps m w found c.args.k c.args.pos c.fill_found.result
    (c.in_ok-object_complete.ensures {u = tt}) c.fill_found.ensures))

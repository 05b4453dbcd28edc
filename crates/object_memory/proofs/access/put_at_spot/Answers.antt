use Rattle.std.proofs.Common.{◌≡◌, List, sym, subst, Some}
use Rattle.std.specs.Prelude.{Result, Ok, Err, slice_get}
use Rattle.obj_mem.specs.declared.ending.Fault.{Fault}
use Rattle.obj_mem.specs.Objects.{Content}
use Rattle.object_memory.specs.Views.{ObjectView}
use Rattle.object_memory.specs.Answers.{mode_of, spot_of}
use Rattle.object_memory.specs.Memories.{memory_at, piece_of, reached}
use Rattle.object_memory.proofs.Stores.{leaves_fault, leaves_put}
use Rattle.object_memory.proofs.access.put_at_spot.Goals as goal

pub returns-in-Err : goal.returns-in-Err
returns-in-Err c =
    let answer : Result Content Fault = Err c.in-Err.e in
    let there = subst (λ (os : List ObjectView).
    reached (mode_of c.args.mode) (memory_at os c.args.notes.now) (spot_of c.args.s) c.args.n ≡ answer)
    c.as_slice.ensures.value (sym c.in-Err.ensures.value) in
    leaves_fault _ (mode_of c.args.mode) (memory_at c.args.objects.now.items c.args.notes.now)
    (spot_of c.args.s) c.args.n (piece_of c.args.piece.now) c.in-Err.e there

pub returns-in-Ok : goal.returns-in-Ok
returns-in-Ok c =
    let answer : Result Content Fault = Ok c.in-Ok.field-0.now.content in
    let there = subst (λ (os : List ObjectView).
    reached (mode_of c.args.mode) (memory_at os c.args.notes.now) (spot_of c.args.s) c.args.n ≡ answer)
    c.as_slice.ensures.value (sym c.in-Ok.ensures.value) in
    let found = subst (λ (os : List ObjectView). slice_get os c.args.s.object ≡ Some c.in-Ok.field-0.now)
    c.as_slice.ensures.value c.in-Ok.ensures.there in
    leaves_put (mode_of c.args.mode) (memory_at c.args.objects.now.items c.args.notes.now) _ (spot_of c.args.s) c.args.n
    (piece_of c.args.piece.now) c.in-Ok.field-0.now.content _ there
    (c.put_piece.ensures c.args.notes.now c.in-Ok.field-0.now found)

use Rattle.std.proofs.Common.{◌≡◌, List, sym, subst}
use Rattle.std.specs.Prelude.{Result, Ok, Err}
use Rattle.obj_mem.specs.declared.ending.Fault.{Fault}
use Rattle.obj_mem.specs.Access.{Piece, carried, fetch, onward}
use Rattle.obj_mem.specs.Values.{value_of}
use Rattle.object_memory.specs.Views.{ObjectView}
use Rattle.object_memory.specs.Answers.{mode_of}
use Rattle.object_memory.specs.Memories.{memory_at, piece_of}
use Rattle.object_memory.proofs.Copies.{load_fails, store_fails, store_ends}
use Rattle.object_memory.proofs.access.copy_unit.Goals as goal

pub returns-in-Err : goal.returns-in-Err
returns-in-Err c =
    let answer : Result Piece Fault = Err c.in-Err.e in
    let there = subst (λ (os : List ObjectView).
    onward (fetch (mode_of c.args.mode) (memory_at os c.args.notes.now) (value_of c.args.from) c.args.n) carried
    ≡ answer) c.as_slice.ensures.value (sym c.in-Err.ensures.value) in
    load_fails _ (mode_of c.args.mode) (memory_at c.args.objects.now.items c.args.notes.now) (value_of c.args.from)
    (value_of c.args.to) c.args.n c.in-Err.e there

pub returns-in-Err-put : goal.returns-in-Err-put
returns-in-Err-put c =
    let answer : Result Piece Fault = Ok (piece_of c.in-Ok.piece) in
    let there = subst (λ (os : List ObjectView).
    onward (fetch (mode_of c.args.mode) (memory_at os c.args.notes.now) (value_of c.args.from) c.args.n) carried
    ≡ answer) c.as_slice.ensures.value (sym c.in-Ok.ensures.value) in
    store_fails _ (mode_of c.args.mode) (memory_at c.args.objects.now.items c.args.notes.now) _ (value_of c.args.from)
    (value_of c.args.to) c.args.n (piece_of c.in-Ok.piece) c.in-Err-put.e there c.in-Err-put.ensures

pub returns-in-Ok-put : goal.returns-in-Ok-put
returns-in-Ok-put c =
    let answer : Result Piece Fault = Ok (piece_of c.in-Ok.piece) in
    let there = subst (λ (os : List ObjectView).
    onward (fetch (mode_of c.args.mode) (memory_at os c.args.notes.now) (value_of c.args.from) c.args.n) carried
    ≡ answer) c.as_slice.ensures.value (sym c.in-Ok.ensures.value) in
    store_ends (mode_of c.args.mode) (memory_at c.args.objects.now.items c.args.notes.now) _ (value_of c.args.from)
    (value_of c.args.to) c.args.n (piece_of c.in-Ok.piece) c.in-Ok-put.field-0 tt there c.in-Ok-put.ensures

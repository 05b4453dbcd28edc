use Rattle.std.proofs.Common.{◌≡◌, ◌<◌, map, length, sym, ap, ◌∙◌, true, rules}
use Rattle.obj_mem.specs.Objects.{is_note_of, noted}
use Rattle.object_memory.specs.Notes.{note_of}
use Rattle.object_memory.proofs.Noted.{noted_here}
use Rattle.object_memory.proofs.notes.add_note.Goals as goal

pub returns-then-is_of-clause-ok : goal.returns-then-is_of-clause-ok
returns-then-is_of-clause-ok c =
    let i = c.loop-k.invariant in
    let within : c.loop-k.k < length c.loop-k.notes.items = search rules in
    let here : is_note_of c.args.object c.args.low c.args.high (note_of c.index.result.now) ≡ true =
    sym c.is_of.ensures ∙ c.if-is_of.true in
    let same = ap (λ w. record (note_of c.index.result.now) { own = w }) c.max.ensures in
    let all = noted_here c.loop-k.notes.items c.loop-k.k c.args.object c.args.low c.args.high c.args.own
    c.index.result.now _ within c.index.ensures here same in
    sym all ∙ i.0 ∙ ap (λ xs. noted (map note_of xs) c.args.object c.args.low c.args.high c.args.own) i.1

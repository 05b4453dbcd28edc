use Rattle.std.proofs.Common.{◌||◌, ◌&&◌, ◌==◌, ◌+◌, ◌*◌, ◌<◌, length, drop, false, sym, ap, ◌∙◌, arith}
use Rattle.std.specs.Prelude.{slice_index_or}
use Rattle.image_load.specs.Judging.{address_of}
use Rattle.image_load.specs.Contained.{executes}
use Rattle.image_load.proofs.Walk.{at_some}
use Rattle.elf_audit.proofs.Noted.{entered, entered_next, entered_none, note_moves}
use Rattle.elf_audit.proofs.reached.note_entries.Goals as goal

pub loop-r-smaller : goal.loop-r-smaller
loop-r-smaller c = let h = (at_some c.args.view.now.relocs c.loop-r.k c.in-Some.r (sym c.in-Some.ensures.value)).1 in
    omega (arith, h)

pub loop-r-preserved : goal.loop-r-preserved
loop-r-preserved c j below =
    let x = c.args.view.now.text_base + 4 * j in
    let come = entered (drop (c.loop-r.k + 1) c.args.view.now.relocs) x in
    let hit = executes c.in-Some.r && address_of c.in-Some.r == x in
    let old = slice_index_or c.loop-r.reached j false in
    let lt : j < length c.loop-r.reached = omega (arith, c.note_entry.auto.reached) in
    ap (λ b. come || b) (c.note_entry.ensures j lt) ∙ note_moves come hit old
    ∙ ap (λ b. b || old) (sym (entered_next c.args.view.now.relocs c.loop-r.k c.in-Some.r x
    (sym c.in-Some.ensures.value))) ∙ c.loop-r.invariant j lt

pub returns : goal.returns
returns c j below =
    let x = c.args.view.now.text_base + 4 * j in
    sym (ap (λ b. b || slice_index_or c.loop-r.reached j false)
    (entered_none c.args.view.now.relocs c.loop-r.k x (sym c.in_default.ensures.value)))
    ∙ c.loop-r.invariant j (omega (arith, c.loop-r.auto.reached))

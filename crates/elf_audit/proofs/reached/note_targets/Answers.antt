use Rattle.std.proofs.Common.{◌+◌, ◌*◌, ◌<◌, length, sym, ◌∙◌, arith}
use Rattle.image_load.specs.Contained.{text_in}
use Rattle.elf_audit.proofs.Noted.{no_target_yet, target_noted}
use Rattle.elf_audit.proofs.reached.note_targets.Goals as goal

pub loop-k-init : goal.loop-k-init
loop-k-init c j below = c.requires.none j below
    ∙ sym (no_target_yet (text_in c.args.view.now) (c.args.view.now.text_base + 4 * j))

pub loop-k-preserved : goal.loop-k-preserved
loop-k-preserved c j below =
    let lt : j < length c.loop-k.reached = omega (arith, c.note_target.auto.reached) in
    target_noted (text_in c.args.view.now) c.loop-k.k (c.args.view.now.text_base + 4 * j) _ _
    (c.note_target.ensures j lt) (c.loop-k.invariant j lt)

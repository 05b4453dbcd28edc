use Rattle.std.proofs.Common.{◌∙◌, sym}
use Rattle.c_passing.proofs.Numbering.{adds_pointer, adds_tagged_pointer}
use Rattle.c_passing.proofs.types.pointer_to.Goals as goal
use Rattle.passing_steps.proofs.Results.{on_ok}

pub returns-then-is_tagged : goal.returns-then-is_tagged
returns-then-is_tagged c =
    on_ok c.keep.result _ _ (adds_tagged_pointer c.args.types.now c.args.into.now c.keep.new.into c.args.t
    c.pointer-k.result
    c.pointer-k.ensures (sym c.is_tagged.ensures ∙ c.if-is_tagged.true)) c.keep.ensures

pub returns : goal.returns
returns c = on_ok c.plainly.result _ _ (adds_pointer c.args.types.now c.args.into.now c.plainly.new.into c.args.t
    c.number-of.result c.number-of.ensures) c.plainly.ensures

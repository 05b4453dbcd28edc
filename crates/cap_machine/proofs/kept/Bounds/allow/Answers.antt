use Rattle.std.proofs.Common.{ℕ, ◌%◌, sym, ap, ◌∙◌, arith}
use Rattle.cap_ops.specs.declared.capability.Cap.{Cap}
use Rattle.cap_machine.proofs.Passed.{passes}
use Rattle.cap_machine.proofs.kept.Bounds.allow.Goals as goal

pub returns : goal.returns
returns c h =
    let bytes = c.from-size.ensures ∙ c.size.ensures in
    let permitted = c.if-not-is_permitted.ensures in
    let x : Cap = c.args.c.now in
    passes x c.args.at c.args.a c.if-not-c.false c.if-c-ne-UNSEALED.false (permitted.load h) (permitted.store h)
    (permitted.capability h) (permitted.jump h)
    (omega (arith, c.requires.base, c.if-at-self.false))
    (omega (arith, c.requires.top, c.if-self-at.false, c.if-self-at-2.false, bytes))
    (ap (λ (n : ℕ). c.args.at % n) (sym bytes) ∙ c.if-at-size-ne0.false)

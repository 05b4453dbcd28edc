use Rattle.std.proofs.Common.{◌≡◌, ◌*◌, Bool, true, false, refl, arith}
use Rattle.cap_concentrate.specs.Decoding.{top_of}
use Rattle.cap_concentrate.specs.declared.fields.Fields.{Fields}
use mathlib.Core.Bool.{not, beq}
use Rattle.cap_machine.specs.declared.kept.Bounds.{Bounds}
use Rattle.cap_machine.proofs.KeptBounds.{of_block}
use Rattle.cap_machine.proofs.kept.Bounds.are_of.Goals as goal

same : (a b : Bool) → not (beq a b) ≡ false → a ≡ b
same true true h = refl
same false false h = refl
same true false h = let e : true ≡ false = h in cc
same false true h = let e : true ≡ false = h in cc

pub returns : goal.returns
returns c =
    let now : Bounds = c.args.self.now in
    let f : Fields = c.args.f.now in
    let both = of_block f now.internal now.t now.b now.block now.base
    (top_of now.internal now.t now.b (now.block * 2048)) c.if-self-f.false c.if-self-f-2.false c.if-self-f-3.false
    (same now.internal f.internal c.if-self-f-4.false) now.base_is refl in
    record { base = λ _. both.0; top = λ _. omega (arith, both.1, now.top_is) }

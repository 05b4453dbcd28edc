use Rattle.std.proofs.Common.{◌≡◌, ap, ◌∙◌}
use Rattle.std.specs.Int.{cast_signed, cast_unsigned, w128}
use Rattle.std.specs.Prelude.{int_div}
use Rattle.std.proofs.lemmas.Int.{to_z-of_z}
use Rattle.object_memory.proofs.Products.{quotient_fits}
use Rattle.object_memory.proofs.integers.quotient.Goals as goal

pub returns : goal.returns
returns c =
    let x = to_z-of_z w128 c.args.x c.ranges.x in
    let y = to_z-of_z w128 c.args.y c.ranges.y in
    let inside : int_div (cast_signed w128 (cast_unsigned w128 c.args.x))
    (cast_signed w128 (cast_unsigned w128 c.args.y)) ≡ int_div c.args.x c.args.y = λ i. int_div (x i) (y i) in
    ap (λ z. cast_signed w128 (cast_unsigned w128 z)) inside
    ∙ to_z-of_z w128 (int_div c.args.x c.args.y) (quotient_fits c.args.x c.args.y c.requires.left)

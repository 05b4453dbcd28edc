use Rattle.std.proofs.Common.{ap, sym, ◌∙◌, map}
use Rattle.c_tree.specs.Types.{Function}
use Rattle.c_tree.specs.Views.{tys}
use Rattle.c_type_levels.specs.Heads.{built}
use Rattle.c_interner.specs.Levels.{part_of}
use Rattle.c_interner.proofs.Pairing.{tys-map, rank_part}
use Rattle.c_interner.proofs.levels.with_part.Goals as goal

pub returns-in-Function-clause-is : goal.returns-in-Function-clause-is
returns-in-Function-clause-is c go ps =
    let f = part_of c.args.void c.args.k in
    ap (λ h. built h ps (λ j. go (f j))) c.in-Function.is
    ∙ ap (λ x. Function (go x) (tys (map (λ j. go (f j)) ps))) (sym c.part_of-in-Function.ensures)
    ∙ ap (λ ts. Function (go c.part_of-in-Function.result) ts) (tys-map f go ps)

pub returns-in-Pointer-clause-rank : goal.returns-in-Pointer-clause-rank
returns-in-Pointer-clause-rank c = rw c.part_of.ensures (rank_part c.args.void c.args.k c.in-Pointer.of)

pub returns-in-Array-clause-rank : goal.returns-in-Array-clause-rank
returns-in-Array-clause-rank c = rw c.part_of-in-Array.ensures (rank_part c.args.void c.args.k c.in-Array.of)

pub returns-in-Function-clause-rank : goal.returns-in-Function-clause-rank
returns-in-Function-clause-rank c =
    rw c.part_of-in-Function.ensures (rank_part c.args.void c.args.k c.in-Function.gives)

pub returns-in-Const-clause-rank : goal.returns-in-Const-clause-rank
returns-in-Const-clause-rank c = rw c.part_of-in-Const.ensures (rank_part c.args.void c.args.k c.in-Const.of)

use Rattle.std.proofs.Common.{ap, sym, ◌∙◌, take}
use Rattle.std.proofs.lemmas.Bool.{ltb-false}
use Rattle.c_tree.specs.Types.{is_function}
use Rattle.c_tree.specs.Views.{type_at, types_of}
use Rattle.c_interner.specs.Heads.{params_of}
use Rattle.c_interner.proofs.Growing.{there, type_at-past, type_at-level}
use Rattle.c_types.proofs.judging.is_function.Goals as goal

pub returns-in-None : goal.returns-in-None
returns-in-None c = sym (ap is_function (type_at-past c.args.types.now c.args.of
    (ltb-false _ _ (sym c.in-None.ensures.lookup.0))))

pub returns-in-Some : goal.returns-in-Some
returns-in-Some c =
    let go = type_at (types_of (take c.args.of c.args.types.now)) in
    c.is_function_level.ensures (params_of c.in-Some.c.now) go
    ∙ sym (ap is_function (type_at-level c.args.types.now c.args.of c.in-Some.c.now
    (there c.args.types.now c.args.of c.in-Some.c.now c.in-Some.ensures.lookup.0 c.in-Some.ensures.lookup.1)
    ∙ c.head_of.ensures go))

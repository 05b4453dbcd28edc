use Rattle.std.proofs.Common.{length, ◌∙◌, arith}
use Rattle.std.proofs.lemmas.Option.{slice_get_within}
use Rattle.c_plain_parts.proofs.MainFunction.{more_params, gives_past, gives_before, is_empty, has_some}
use Rattle.c_plain_parts.proofs.main_type.is_main_function.Goals as goal

pub returns-then-gives-k : goal.returns-then-gives-k
returns-then-gives-k c = gives_past c.args.types.now c.args.k c.args.gives c.args.params.now c.requires
    (let lt = slice_get_within c.args.types.now c.args.k _ c.requires in omega arith) c.if-gives-k.true

pub returns-then-is_empty : goal.returns-then-is_empty
returns-then-is_empty c =
    gives_before c.args.types.now c.args.k c.args.gives c.args.params.now c.requires
    (is_empty (length c.args.params.now) c.is_empty.result c.is_empty.ensures c.if-is_empty.true)
    (let lt = slice_get_within c.args.types.now c.args.k _ c.requires in omega arith) c.if-gives-k.false
    ∙ c.is_int.ensures

pub returns : goal.returns
returns c = more_params c.args.types.now c.args.k c.args.gives c.args.params.now c.requires
    (has_some (length c.args.params.now) c.is_empty.result c.is_empty.ensures c.if-is_empty.false)

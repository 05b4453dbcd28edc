use Rattle.std.proofs.Common.{◌∷◌, [], ◌++◌, ap, ◌∙◌, subst}
use Rattle.std.proofs.lemmas.List.{take_all}
use Rattle.c_tree.specs.declared.typed.CType.TheVariants as ctypes
use Rattle.passing_steps.specs.Types.{Types}
use Rattle.c_passing.specs.Numbered.{Follows}
use Rattle.c_passing.proofs.Numbering.{starts, types_turn}
use Rattle.c_passing.proofs.types.types_of.Goals as goal

pub loop-k-init : goal.loop-k-init
loop-k-init c =
    starts c.push.new.into (c.in_ok-push.ensures.list
    ∙ ap (λ zs. zs ++ ctypes.Void ∷ []) c.new.ensures.items)
    (ap (λ (t : Types). t.numbers.items) c.in_ok-push.ensures.rest ∙ c.new-2.ensures.items)
    (ap (λ (t : Types). t.pointers.items) c.in_ok-push.ensures.rest ∙ c.new-3.ensures.items)

pub loop-k-preserved : goal.loop-k-preserved
loop-k-preserved c =
    types_turn c.args.types.now c.split_at.result.0.now c.loop-k.k c.index-types-k.result c.loop-k.passed c.add.new.into
    c.loop-k-test.true c.index-types-k.is c.split_at.ensures.front c.in_ok-add.ensures c.loop-k.invariant

pub returns : goal.returns
returns c = subst (λ ts. Follows ts c.loop-k.passed) (take_all c.loop-k.k c.args.types.now c.loop-k-test.false)
    c.loop-k.invariant

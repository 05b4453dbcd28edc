use Rattle.c_types.proofs.Looking.{new_scope}
use Rattle.c_types.proofs.Start.{bind_row, all_bound}
use Rattle.c_types.proofs.beginning.named_scope.Goals as goal

pub loop-name-init : goal.loop-name-init
loop-name-init c ts h a = new_scope ts 0 c.new-scope.result c.new-scope.ensures.names c.new-scope.ensures.tags

pub loop-name-preserved : goal.loop-name-preserved
loop-name-preserved c ts h a =
    bind_row ts c.args.numbers.now c.args.rows.now c.loop-name.name-index _ c.loop-name.scope c.bind.new.self
    c.loop-name-test.true h a
    (rw c.known_entity.ensures at c.in_ok-bind.ensures.names) c.in_ok-bind.ensures.tags (c.loop-name.invariant ts h a)

pub returns : goal.returns
returns c ts h a = all_bound ts c.args.rows.now c.loop-name.name-index c.loop-name.scope c.loop-name-test.false
    (c.loop-name.invariant ts h a)

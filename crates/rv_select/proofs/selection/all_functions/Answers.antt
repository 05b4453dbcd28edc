use Rattle.std.proofs.Common.{◌<◌, length, arith, subst}
use Rattle.std.proofs.lemmas.List.{take_all}
use Rattle.std.proofs.lemmas.Option.{slice_get_read}
use Rattle.tac_ir.specs.Costs.{function_cost}
use Rattle.rv_select.specs.Following.{ArePut}
use Rattle.rv_select.specs.Selectable.{table_of}
use Rattle.rv_select.proofs.TakeSums.{sum_step, sum_room}
use Rattle.rv_select.proofs.Together.{put_none, put_next}
use Rattle.rv_select.proofs.selection.all_functions.Goals as goal

pub one_function-requires-clause-framed : goal.one_function-requires-clause-framed
one_function-requires-clause-framed c =
    let lt : c.loop-k.k < length c.args.funs.now = omega (arith, c.loop-k-test.true) in
    c.requires.framed c.loop-k.k c.index-places-k.result c.index-frames-k.result
    (slice_get_read c.args.places.now (length c.args.funs.now) c.loop-k.k c.index-places-k.result
    (omega (arith, c.requires.places)) lt c.index-places-k.is)
    (slice_get_read c.args.frames.now (length c.args.funs.now) c.loop-k.k c.index-frames-k.result
    (omega (arith, c.requires.frames)) lt c.index-frames-k.is)

pub one_function-requires-clause-room : goal.one_function-requires-clause-room
one_function-requires-clause-room c =
    let lt : c.loop-k.k < length c.args.funs.now = omega (arith, c.loop-k-test.true) in
    let r = sum_room function_cost c.args.funs.now c.loop-k.k c.index-funs-k.result lt c.index-funs-k.is in
    let f = c.loop-k.invariant.few in
    let g = c.requires.room in
    omega (arith, r, f, g)

pub loop-k-init : goal.loop-k-init
loop-k-init c = record {
  few = omega arith;
  each = omega arith;
  put = λ between all.
      put_none (table_of c.args.table) c.args.places.now c.args.frames.now c.args.code.now between;
}

pub loop-k-preserved : goal.loop-k-preserved
loop-k-preserved c =
    let n = length c.args.funs.now in
    let k = c.loop-k.k in
    let t = c.index-funs-k.result in
    let l = c.index-places-k.result in
    let frame = c.index-frames-k.result in
    let lt : k < n = omega (arith, c.loop-k-test.true) in
    let r = sum_step function_cost c.args.funs.now k t lt c.index-funs-k.is in
    let a = c.loop-k.invariant in
    let e = c.in_ok-one_function.ensures in
    let place = slice_get_read c.args.places.now n k l (omega (arith, c.requires.places)) lt c.index-places-k.is in
    let framed = slice_get_read c.args.frames.now n k frame (omega (arith, c.requires.frames)) lt c.index-frames-k.is in
    let fun = slice_get_read c.args.funs.now n k t (omega arith) lt c.index-funs-k.is in
    record {
      few = omega (arith, r, a.few, e.size.1);
      each = omega (arith, a.each, e.size.2);
      put = λ between all.
          let before = a.put between all in
          put_next (table_of c.args.table) c.args.funs.now c.args.places.now c.args.frames.now k t l frame _ _ _ lt
          c.index-funs-k.is place framed a.each before (e.put before.between (all k t l frame fun place framed));
    }

pub returns-clause-put : goal.returns-clause-put
returns-clause-put c = λ between all.
    subst (λ xs. ArePut (table_of c.args.table) xs c.args.places.now c.args.frames.now c.args.code.now c.loop-k.code)
    (take_all c.loop-k.k c.args.funs.now c.loop-k-test.false) (c.loop-k.invariant.put between all)

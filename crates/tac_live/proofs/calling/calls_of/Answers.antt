use Rattle.std.proofs.Common.{◌≡◌, suc, ◌+◌, [], ◌∷◌, ◌++◌, true, false, length, sym, subst, arith}
use Rattle.tac_live.specs.Calls.{is_call}
use Rattle.tac_live.proofs.Numbers.{at_item}
use Rattle.tac_live.proofs.CallSteps.{CallsUpto, calls_end, calls_same, calls_more}
use Rattle.tac_live.proofs.calling.calls_of.Goals as goal
use Rattle.tac_live.proofs.calling.calls_of.Goals.{then-is_call+in_ok-push, else-is_call}

pub loop-i-preserved : goal.loop-i-preserved
loop-i-preserved c =
    let code = c.args.code.now in
    let at = c.loop-i.at + 1 in
    let here = at_item code c.loop-i.i-index c.i-item.result at (omega arith) c.i-item.is (omega arith) in
    let next : at ≡ suc c.loop-i.at = omega arith in
    record {
      at = omega arith;
      calls = elim c.if-is_call.branch [
        | then-is_call+in_ok-push w ↦
            let e : c.if-is_call.calls.items ≡ c.loop-i.calls.items ++ at ∷ [] =
            cc (w.in_ok-push.ensures.items, w.calls-is) in
            let call : is_call c.i-item.result ≡ true = cc in
            subst (λ xs. CallsUpto code at xs) (sym e)
            (calls_more code c.loop-i.at at c.loop-i.calls.items c.i-item.result next here c.loop-i.invariant.calls
            call)
        | else-is_call w ↦
            let e : c.if-is_call.calls.items ≡ c.loop-i.calls.items = cc in
            let call : is_call c.i-item.result ≡ false = cc in
            subst (λ xs. CallsUpto code at xs) (sym e)
            (calls_same code c.loop-i.at at c.loop-i.calls.items c.i-item.result next here c.loop-i.invariant.calls
            call)
      ];
    }

pub returns : goal.returns
returns c =
    let code = c.args.code.now in
    let e : c.loop-i.at ≡ length code = omega arith in
    calls_end code c.loop-i.calls.items (subst (λ n. CallsUpto code n c.loop-i.calls.items) e c.loop-i.invariant.calls)
